-- Text that is printed part by part.
use Rattle.std.proofs.Common.{◌≡◌, ℕ, ◌+◌, ◌<◌, ◌≤◌, List, [], ◌∷◌, ◌++◌, length, get_or, take, drop, Option, Result, Ok, Err, OnErr, OnOk}
use Rattle.std.proofs.Common.{refl, ap, sym, ◌∙◌, subst, arith, append_assoc, append-nil, length-append, take-append-drop}
use Rattle.std.specs.Io.KnownBytes.{Appends}
use Rattle.std.specs.List.{flat_map}
use Rattle.std.proofs.KnownBytes.{Appends-nil, Appends-trans}
use Rattle.std.proofs.Math.Seq.{take-append-add}
use Rattle.std.proofs.lemmas.List.{take-append-le, take_all, take_more}
use Rattle.std.proofs.lemmas.List.Concat.{flat_map-append}
use Rattle.zh_sheet_text.specs.Printing.{Prints, WritesFront}

-- text was put into the buffer
pub Prints-put : (held : Option (List ℕ)) (page next text : List ℕ) → next ≡ page ++ text → Prints held page held next text
Prints-put held page next text put = record { sent = []; appended = Appends-nil held; whole = sym put }

-- one text after another
pub Prints-append : (a b c : Option (List ℕ)) (p q r x y : List ℕ) → Prints a p b q x → Prints b q c r y → Prints a p c r (x ++ y)
Prints-append a b c p q r x y first second = record {
  sent = first.sent ++ second.sent;
  appended = Appends-trans a b c first.sent second.sent first.appended second.appended;
  whole =
      sym (append_assoc p x y)
      ∙ (ap (λ t. t ++ y) first.whole
      ∙ (append_assoc first.sent q y ∙ (ap (λ t. first.sent ++ t) second.whole ∙ sym (append_assoc first.sent second.sent r))));
}

-- text was put into the buffer and then written
pub Prints-sent : (a b : Option (List ℕ)) (page next left text : List ℕ) → next ≡ page ++ text → Prints a next b left [] → Prints a page b left text
Prints-sent a b page next left text put sent = record {
  sent = sent.sent;
  appended = sent.appended;
  whole = sym put ∙ (sym (append-nil next) ∙ sent.whole);
}

-- a proper prefix of a text is one of any longer text
pub WritesFront-append : (a b : Option (List ℕ)) (x y : List ℕ) → WritesFront a b x → WritesFront a b (x ++ y)
WritesFront-append a b x y written =
    let within : written.0 ≤ length x = omega (arith, written.1) in
    (written.0, omega (arith, written.1, length-append x y), subst (Appends a b) (sym (take-append-le written.0 x y within)) written.2)

-- the writer fails after some text was printed
pub WritesFront-after : (a b c : Option (List ℕ)) (p q x : List ℕ) → Prints a p b q x → WritesFront b c q → WritesFront a c (p ++ x)
WritesFront-after a b c p q x printed written =
    let n : ℕ = length printed.sent + written.0 in
    let less : n < length (p ++ x) = omega (arith, written.1, ap length printed.whole, length-append printed.sent q) in
    let front : take n (p ++ x) ≡ printed.sent ++ take written.0 q
    = ap (take n) printed.whole ∙ take-append-add printed.sent q written.0 in
    (n, less, subst (Appends a c) (sym front) (Appends-trans a b c printed.sent (take written.0 q) printed.appended written.2))

-- if the buffer is empty before and after, the writer got the text
pub all_written : (a b : Option (List ℕ)) (p q x : List ℕ) → p ≡ [] → q ≡ [] → Prints a p b q x → Appends a b x
all_written a b p q x none left printed =
    let whole : x ≡ printed.sent = ap (λ t. t ++ x) (sym none) ∙ (printed.whole ∙ (ap (λ t. printed.sent ++ t) left ∙ append-nil printed.sent)) in
    subst (Appends a b) (sym whole) printed.appended

-- one more line was printed
pub lines_printed : {X : Type 0} (a b c : Option (List ℕ)) (p q r : List ℕ) (text : X → List ℕ) (xs : List X) (k : ℕ) (d : X) → k < length xs →
    Prints a p b q (flat_map text (take k xs)) → Prints b q c r (text (get_or xs k d)) → Prints a p c r (flat_map text (take (k + 1) xs))
lines_printed a b c p q r text xs k d lt before next =
    let line : List ℕ = text (get_or xs k d) in
    let more : flat_map text (take (k + 1) xs) ≡ flat_map text (take k xs) ++ line
    = ap (flat_map text) (take_more xs k d lt)
    ∙ (flat_map-append text (take k xs) (get_or xs k d ∷ []) ∙ ap (λ t. flat_map text (take k xs) ++ t) (append-nil line)) in
    subst (Prints a p c r) (sym more) (Prints-append a b c p q r (flat_map text (take k xs)) line before next)

-- the writer fails at a line
pub lines_stopped : {X : Type 0} (a b c : Option (List ℕ)) (p q : List ℕ) (text : X → List ℕ) (xs : List X) (k : ℕ) (d : X) → k < length xs →
    Prints a p b q (flat_map text (take k xs)) → WritesFront b c (q ++ text (get_or xs k d)) → WritesFront a c (p ++ flat_map text xs)
lines_stopped a b c p q text xs k d lt before stopped =
    let line : List ℕ = text (get_or xs k d) in
    let front : List ℕ = flat_map text (take (k + 1) xs) in
    let rest : List ℕ = flat_map text (drop (k + 1) xs) in
    let so_far : Prints a p b (q ++ line) front = lines_printed a b b p q (q ++ line) text xs k d lt before (Prints-put b q (q ++ line) line refl) in
    let whole : flat_map text xs ≡ front ++ rest = ap (flat_map text) (sym (take-append-drop (k + 1) xs)) ∙ flat_map-append text (take (k + 1) xs) (drop (k + 1) xs) in
    subst (WritesFront a c) (append_assoc p front rest ∙ ap (λ t. p ++ t) (sym whole))
    (WritesFront-append a c (p ++ front) rest (WritesFront-after a b c p (q ++ line) front so_far stopped))

-- all lines are printed
pub lines_all : {X : Type 0} (a b : Option (List ℕ)) (p q : List ℕ) (text : X → List ℕ) (xs : List X) (k : ℕ) → length xs ≤ k →
    Prints a p b q (flat_map text (take k xs)) → Prints a p b q (flat_map text xs)
lines_all a b p q text xs k past printed = subst (λ ls. Prints a p b q (flat_map text ls)) (take_all k xs past) printed

-- what holds, holds at an error
pub at_error : {T E : Type 0} {P : Type 0} (result : Result T E) → P → OnErr result P
at_error (Ok value) holds = tt
at_error (Err error) holds = holds

-- all that was in the buffer is written
pub sent_whole : {T E : Type 0} (result : Result T E) (a b c : Option (List ℕ)) (page left text : List ℕ) → Prints a [] b page text →
    OnOk result (Prints b page c left []) → OnOk result (left ≡ []) → OnOk result (Appends a c text)
sent_whole (Ok value) a b c page left text printed sent empty =
    subst (Appends a c) (append-nil text)
    (all_written a c [] left (text ++ []) refl empty (Prints-append a b c [] page left text [] printed sent))
sent_whole (Err error) a b c page left text printed sent empty = tt

pub sent_front : {T E : Type 0} (result : Result T E) (a b c : Option (List ℕ)) (page text : List ℕ) → Prints a [] b page text →
    OnErr result (WritesFront b c page) → OnErr result (WritesFront a c text)
sent_front (Ok value) a b c page text printed stopped = tt
sent_front (Err error) a b c page text printed stopped = WritesFront-after a b c [] page text printed stopped
