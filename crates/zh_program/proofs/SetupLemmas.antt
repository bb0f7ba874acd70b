-- A set-up and the text from which it is read.
use Rattle.std.proofs.Common.{◌≡◌, ◌≢◌, ◌<◌, ◌≤◌, ◌∙◌, refl, sym, ap, subst, arith, ⊎_elim, inl, inr}
use Rattle.std.proofs.Common.{ℕ, nat_le, List, [], ◌++◌, length, take, Bool, true, false, cond, ◌&&◌, Option, Some, None, Ok, Err, IfSome}
use Rattle.std.proofs.lemmas.Bool.{cases_lt}
use Rattle.std.proofs.lemmas.Bool.Decides.{leb_tells}
use Rattle.std.proofs.lemmas.List.{length-take, take_all}
use Rattle.std.specs.Option.{option_map}
use Rattle.zh_districts.specs.Canton.{Canton, IsCanton}
use Rattle.std.specs.Str.{is_utf8}
use Rattle.zh_setups.specs.SetupText.{reading_of}
use Rattle.zh_setups.specs.declared.text.SetupFault.TheVariants.{Memory, Text}
use Rattle.zh_setups.specs.declared.text.SetupRefusal.{SetupRefusal}
use Rattle.zh_setups.specs.Refusals.{IsPlaced}
use Rattle.zh_program.specs.Texts.{RefusesSetup}
use Rattle.zh_program.specs.World.{IsFrontAt, IsSetupAt}

front_of : (all front before text : List ℕ) → text ≡ before ++ front → before ≡ [] → front ≡ take 1048577 all → text ≡ take 1048577 all
front_of all front before text is none cut = is ∙ ap (λ (l : List ℕ). l ++ front) none ∙ cut

pub front_known : (known read : Option (List ℕ)) (limit : ℕ) (before text : List ℕ) → read ≡ known → limit ≡ 1048577 → before ≡ []
    → IfSome (option_map (take limit) read) (λ xs. text ≡ before ++ xs) → IsFrontAt known text
front_known None read limit before text is at_most none front = tt
front_known (Some all) (Some xs) limit before text is at_most none front =
    let same : xs ≡ all = cc in
    front_of all (take limit xs) before text front none (ap (λ (n : ℕ). take n xs) at_most ∙ ap (take 1048577) same)
front_known (Some all) None limit before text is at_most none front = absurd cc

whole : (all front : List ℕ) → front ≡ take 1048577 all → length front ≤ 1048576 → front ≡ all
whole all front is short = is ∙ take_all 1048577 all (omega (arith, length-take 1048577 all, ap length is))

unless : {X : Type 0} (b c : Bool) (x y : X) → b ≡ false → cond (b && c) x y ≡ y
unless true c x y is = absurd cc
unless false c x y is = refl

-- Too many bytes are not a set-up.
no_text : (bytes : List ℕ) → nat_le (length bytes) 1048576 ≡ false → reading_of bytes ≡ Err Text
no_text bytes is = unless (nat_le (length bytes) 1048576) (is_utf8 bytes) _ (Err Text) is

long : (front : List ℕ) (canton : Canton) → nat_le (length front) 1048576 ≡ false → reading_of front ≡ Ok canton → ⊥
long front canton is reading = differ (sym (no_text front is) ∙ reading)
  where
    differ : Err Text ≡ Ok canton → ⊥
    differ h = cc

short : (n : ℕ) → (nat_le n 1048576 ≡ false → ⊥) → n ≤ 1048576
short n is = ⊎_elim (λ (h : (nat_le n 1048576 ≡ true) × (n ≤ 1048576)). h.1) (λ (h : (nat_le n 1048576 ≡ false) × (1048576 < n)). absurd (is h.0)) (leb_tells n 1048576)

pub setup_known : (known : Option (List ℕ)) (front : List ℕ) (canton : Canton) → IsFrontAt known front → reading_of front ≡ Ok canton → IsCanton canton → IsSetupAt known canton
setup_known None front canton is reading limits = limits
setup_known (Some all) front canton is reading limits =
    let same = whole all front is (short (length front) (λ h. long front canton h reading)) in
    (limits, subst (λ (l : List ℕ). reading_of l ≡ Ok canton) same reading)

not_short : (n : ℕ) → 1048576 < n → nat_le n 1048576 ≡ false
not_short n long = ⊎_elim (λ (h : (nat_le n 1048576 ≡ true) × (n ≤ 1048576)). absurd (omega arith)) (λ (h : (nat_le n 1048576 ≡ false) × (1048576 < n)). h.0) (leb_tells n 1048576)

-- A prefix that was cut off is not a set-up, and neither is the whole text.
cut : (all front : List ℕ) → front ≡ take 1048577 all → 1048576 < length all → (reading_of front ≡ Err Text) × (reading_of all ≡ Err Text) × (1048576 < length front)
cut all front is long =
    let many : 1048576 < length front = omega (arith, length-take 1048577 all, ap length is) in
    (no_text front (not_short (length front) many), no_text all (not_short (length all) long), many)

placed_long : (all front : List ℕ) (refusal : SetupRefusal) → 1048576 < length all → 1048576 < length front → IsPlaced front refusal → IsPlaced all refusal
placed_long all front refusal long many placed = elim placed [
  | inl memory ↦ inl memory
  | inr known ↦ elim known [
    | inl too_long ↦ inr (inl (long, too_long.1))
    | inr short ↦ absurd (omega (arith, short.0, many))
  ]
]

-- The refusal of the bytes that were read is right for the whole text.
pub setup_refused : (known : Option (List ℕ)) (front text : List ℕ) (refusal : SetupRefusal) → IsFrontAt known front → text ≡ front
    → (refusal.fault ≢ Memory → reading_of text ≡ Err refusal.fault) → IsPlaced text refusal → RefusesSetup known refusal
setup_refused None front text refusal is same fault placed = tt
setup_refused (Some all) front text refusal is same fault placed = elim (cases_lt 1048576 (length all)) [
  | inl long ↦
      let parts = cut all text (same ∙ is) long in
      (λ other. parts.1 ∙ sym parts.0 ∙ fault other, placed_long all text refusal long parts.2 placed)
  | inr short ↦
      let whole : text ≡ all = same ∙ is ∙ take_all 1048577 all (omega arith) in
      (λ other. subst (λ (l : List ℕ). reading_of l ≡ Err refusal.fault) whole (fault other), subst (λ (l : List ℕ). IsPlaced l refusal) whole placed)
]
