-- Text that is written record by record.
use Rattle.std.proofs.Common.{◌≡◌, ℕ, List, [], ◌∷◌, ◌++◌, Option, Some, None, sym, ap, ◌∙◌, append_assoc, subst}
use Rattle.std.specs.List.{flat_map}
use Rattle.std.specs.Io.KnownBytes.{Appends, Keeps, append_known}
use Rattle.std.proofs.lemmas.List.{append-nil, flat_map_more}
use Rattle.csv.specs.Writing.{text_written}
use Rattle.csv.specs.declared.writer.Writer.{Writer}
use Rattle.zh_record_text.specs.Records.{HasWritten, IsBetweenRecords, PutsText}

-- some bytes were appended, then more
pub Appends-join : (a b c : Option (List ℕ)) (xs ys : List ℕ) → Appends a b xs → Appends b c ys → Appends a c (xs ++ ys)
Appends-join None b c xs ys h k = tt
Appends-join (Some kept) None c xs ys h k = absurd h
Appends-join (Some kept) (Some more) None xs ys h k = absurd k
Appends-join (Some kept) (Some more) (Some cs) xs ys h k = k ∙ ap (λ (l : List ℕ). l ++ ys) h ∙ append_assoc kept xs ys

pub Appends-none : (a : Option (List ℕ)) → Appends a a []
Appends-none None = tt
Appends-none (Some kept) = sym (append-nil kept)

-- nothing was appended, then some bytes
Appends-after_none : (a b : Option (List ℕ)) (xs : List ℕ) → Appends (append_known a []) b xs → Appends a b xs
Appends-after_none None b xs h = tt
Appends-after_none (Some kept) None xs h = h
Appends-after_none (Some kept) (Some more) xs h = h ∙ ap (λ (l : List ℕ). l ++ xs) (append-nil kept)

-- from a writer to the underlying writer that it returns
pub Appends-back : (a b c : Option (List ℕ)) (xs : List ℕ) → Appends a b xs → Keeps b c → Appends a c xs
Appends-back None b c xs h k = tt
Appends-back (Some kept) None c xs h k = absurd h
Appends-back (Some kept) (Some more) None xs h k = absurd k
Appends-back (Some kept) (Some more) (Some cs) xs h k = k ∙ h

-- no text, and one text after another
pub Puts-none : {W : Type 0} (contents : W → Option (List ℕ)) (writer : Writer W) → IsBetweenRecords writer → PutsText contents [] writer writer
Puts-none contents writer ready = record { written = Appends-none (text_written contents writer); ready = ready }

pub Puts-join : {W : Type 0} (contents : W → Option (List ℕ)) (xs ys : List ℕ) (a b c : Writer W) → PutsText contents xs a b → PutsText contents ys b c → PutsText contents (xs ++ ys) a c
Puts-join contents xs ys a b c first second = record {
  written = Appends-join (text_written contents a) (text_written contents b) (text_written contents c) xs ys first.written second.written;
  ready = second.ready;
}

-- the texts of these elements, then that of one more
pub Puts-push : {W X : Type 0} (contents : W → Option (List ℕ)) (f : X → List ℕ) (ns : List X) (n : X) (a b c : Writer W) → PutsText contents (flat_map f ns) a b → PutsText contents (f n) b c → PutsText contents (flat_map f (ns ++ n ∷ [])) a c
Puts-push contents f ns n a b c first second =
    subst (λ (text : List ℕ). PutsText contents text a c) (flat_map_more f [] ns n) (Puts-join contents (flat_map f ns) (f n) a b c first second)

-- the first text of a new writer, then one more
pub Written-first : {W : Type 0} (contents : W → Option (List ℕ)) (text : List ℕ) (under : Option (List ℕ)) (a b : Writer W) → text_written contents a ≡ append_known under [] → PutsText contents text a b → HasWritten contents under text b
Written-first contents text under a b new puts = record {
  written = Appends-after_none under (text_written contents b) text (subst (λ (known : Option (List ℕ)). Appends known (text_written contents b) text) new puts.written);
  ready = puts.ready;
}

pub Written-more : {W : Type 0} (contents : W → Option (List ℕ)) (under : Option (List ℕ)) (text more : List ℕ) (a b : Writer W) → HasWritten contents under text a → PutsText contents more a b → HasWritten contents under (text ++ more) b
Written-more contents under text more a b before puts = record {
  written = Appends-join under (text_written contents a) (text_written contents b) text more before.written puts.written;
  ready = puts.ready;
}
