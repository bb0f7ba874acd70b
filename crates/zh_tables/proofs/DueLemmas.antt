-- Numbers of returns that are due, summed from 1 on.
use Rattle.std.proofs.Common.{◌≡◌, ◌+◌, ℕ, true, false, List, length, refl, sym, ap, ◌∙◌, arith, length-append}
use Rattle.zh_districts.specs.Canton.{Canton, constituency_of, stands}
use Rattle.zh_text.specs.Each.{each_to}
use Rattle.zh_text.proofs.CallerLemmas.{each_to_next}
use Rattle.zh_tables.specs.Returns.{due_of}

-- the sum so far, and what the next number adds to it
pub length_next : {A : Type 0} (f : ℕ → List A) (n so_far more : ℕ) → so_far ≡ length (each_to n f) → more ≡ length (f (n + 1)) → so_far + more ≡ length (each_to (n + 1) f)
length_next f n so_far more is adds =
    (λ i. is i + adds i) ∙ (sym (length-append (each_to n f) (f (n + 1))) ∙ ap length (each_to_next f n))

-- a list that stands is one return more
pub one_due : (canton : Canton) (m list : ℕ) → stands canton (constituency_of canton m) list ≡ true → 1 ≡ length (due_of canton m list)
one_due canton m list stands_there = rw stands_there refl

pub none_due : (canton : Canton) (m list : ℕ) → stands canton (constituency_of canton m) list ≡ false → 0 ≡ length (due_of canton m list)
none_due canton m list stands_not = rw stands_not refl

-- the next number adds nothing
pub length_more : {A : Type 0} (f : ℕ → List A) (n so_far : ℕ) → so_far ≡ length (each_to n f) → 0 ≡ length (f (n + 1)) → so_far ≡ length (each_to (n + 1) f)
length_more f n so_far is none =
    let same : so_far ≡ so_far + 0 = omega arith in
    same ∙ length_next f n so_far 0 is none
