-- The keys at the top of a document.
use Rattle.std.proofs.Common.{◌≡◌, Bool, true, false, ◌&&◌, Ordering, Less, Equal, Greater, List, Option, Some, None, ℕ, codes, refl, sym, subst, ◌∙◌, inl, inr}
use Rattle.std.specs.List.{list_all, list_any}
use Rattle.std.specs.Ordering.{nat_cmp, is_eq, match_ordering}
use Rattle.std.specs.Cmp.Lexicographic.{slice_cmp}
use Rattle.std.specs.Str.{bytes_eq}
use Rattle.std.proofs.lemmas.Bool.{not-false, and_parts, cases_Bool, false≢true}
use Rattle.std.proofs.lemmas.Map.Text.{is_eq-slice_cmp}
use Rattle.std.proofs.lemmas.Slice.Eq.{bytes_eq-Decides}
use Rattle.toml.specs.Data.{Data, Members, no_members, member, get_member}
use Rattle.zh_setups.specs.Keys.{tables_at, first_other, knows_keys, knows_keys_of, document_keys, known_keys, own_keys, has_other_key}
use Rattle.zh_setups.specs.SetupText.{HasVersion}
use Rattle.zh_setups.specs.declared.place.Kind.TheVariants as kinds

passed : (o : Ordering) (d : Data) (found : Option Data) → is_eq o ≡ false → match_ordering o found (Some d) found ≡ found
passed Less d found e = refl
passed Equal d found e = absurd cc
passed Greater d found e = refl

-- a table does not have a key that is not known
no_member : (keys : List (List ℕ)) (key : List ℕ) (members : Members) → knows_keys keys members ≡ true → list_any (λ known. bytes_eq known key) keys ≡ false → get_member key members ≡ None
no_member keys key no_members knows other = refl
no_member keys key (member here d members) knows other =
    let k = and_parts (list_any (λ known. bytes_eq known here) keys) (knows_keys keys members) knows in
    let apart : is_eq (slice_cmp nat_cmp key here) ≡ false = elim (cases_Bool (is_eq (slice_cmp nat_cmp key here))) [
      | inl same ↦
          let equal : key ≡ here = (bytes_eq-Decides key here).0 (sym (is_eq-slice_cmp key here) ∙ same) in
          absurd (false≢true (sym other ∙ subst (λ (x : List ℕ). list_any (λ known. bytes_eq known x) keys ≡ true) (sym equal) k.0))
      | inr e ↦ e
    ] in
    passed (slice_cmp nat_cmp key here) d (get_member key members) apart ∙ no_member keys key members k.1 other

-- the keys at the top are known
pub knows_top : (document : Members) → has_other_key document ≡ false → knows_keys (known_keys document) document ≡ true
knows_top document e =
    let cs = list_all (knows_keys_of (own_keys kinds.Constituency)) (tables_at (codes "constituency") document) in
    let ms = list_all (knows_keys_of (own_keys kinds.Municipality)) (tables_at (codes "municipality") document) in
    let gs = list_all (knows_keys_of (own_keys kinds.Group)) (tables_at (codes "group") document) in
    let top = knows_keys (known_keys document) document in
    (and_parts top cs (and_parts (top && cs) ms (and_parts (top && cs && ms) gs (not-false (top && cs && ms && gs) e)).0).0).0

-- version 1 does not know the key of a canton-wide quorum
pub no_quorum_key : (document : Members) → HasVersion document 1 → knows_keys (known_keys document) document ≡ true → get_member (codes "canton_quorum") document ≡ None
no_quorum_key document version knows =
    let keys : known_keys document ≡ document_keys = rw version refl in
    no_member document_keys (codes "canton_quorum") document (subst (λ (keys : List (List ℕ)). knows_keys keys document ≡ true) keys knows) refl

-- the first key that is not in the list: if the table begins with it, and if the table begins with a known key
pub other_here : (keys : List (List ℕ)) (key : List ℕ) (d : Data) (others : Members) (known : Bool) → known ≡ list_any (λ k. bytes_eq k key)
    keys → known ≡ false → Some key ≡ first_other keys (member key d others)
other_here keys key d others known is other = rw (sym is, other) refl

pub other_later : (keys : List (List ℕ)) (key : List ℕ) (d : Data) (others : Members) (known : Bool) → known
    ≡ list_any (λ k. bytes_eq k key) keys → known ≡ true → first_other keys others ≡ first_other keys (member key d others)
other_later keys key d others known is one = rw (sym is, one) refl
