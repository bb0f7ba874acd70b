-- An area after zeros were written over it.
use Rattle.std.proofs.Common.{◌≡◌, ℕ, ◌+◌, ◌-◌, ◌*◌, ◌<◌, ◌≤◌, List, [], length, refl, sym, ◌∙◌, ap, subst, arith, Ok, Err}
use Rattle.std.specs.Prelude.{slice_index}
use Rattle.zh_disk.specs.Disk.{Trail, SameOutside, Writes, splice, written, next}
use Rattle.zh_disk.specs.declared.disk.DiskFault.{DiskFault}
use Rattle.zh_disk.proofs.CallerLemmas.{splice_same, splice_in, write_changes}
use Rattle.zh_journal.specs.Calls.{Clears}
use Rattle.zh_journal.specs.Pages.{HoldsArea, IsCleared}

pub zero_holds : (base : ℕ) (c : List ℕ) → ((k : ℕ) → base ≤ k → k < base + 262144 → slice_index c k ≡ 0) → HoldsArea base 0 [] c
zero_holds base c zero = record {
  frames = refl;
  fits = omega arith;
  closed = λ k from inside. λ is. let no : 0 ≡ 165 = sym (zero (base + 256 * k) (omega arith) (omega arith)) ∙ is in absurd (omega arith);
}

pub cleared : (base : ℕ) (zeros : List ℕ) (t u : Trail) → base + 262144 ≤ length t.now.bytes → length zeros ≡ 262144 → ((k : ℕ) → slice_index zeros k ≡ 0)
    → u ≡ next t (written base zeros t.now) → IsCleared base t.now.bytes u.now.bytes
cleared base zeros t u fits long zero is =
    let b = t.now.bytes in
    let now : u.now.bytes ≡ splice base zeros t.now.bytes = ap (λ (x : Trail). x.now.bytes) is in
    let same : SameOutside base 262144 t.now.bytes (splice base zeros t.now.bytes) =
    subst (λ (n : ℕ). SameOutside base n t.now.bytes (splice base zeros t.now.bytes)) long (splice_same base zeros t.now.bytes (omega arith)) in
    let nought : (k : ℕ) → base ≤ k → k < base + 262144 → slice_index (splice base zeros t.now.bytes) k ≡ 0 = λ k from inside.
    splice_in base zeros t.now.bytes k (omega arith) from (omega arith) ∙ zero (k - base) in
    subst (λ (l : List ℕ). IsCleared base t.now.bytes l) (sym now) (record { around = same; zero = nought; area = zero_holds base (splice base zeros t.now.bytes) nought })

-- Zeros are written over an area.
module _ {T : Type 0} (base : ℕ) (zeros : List ℕ) (t u : Trail) (fits : base + 262144 ≤ length t.now.bytes) (long : length zeros ≡ 262144) where
  pub clear_failed : (d e : DiskFault) → Writes base zeros (Err d) t u → Clears {T = T} base (Err e) t u
  clear_failed d e writes = record {
    moments = (write_changes t u base 262144 zeros (Err d) long fits writes).moments;
    done = tt;
    calls = tt;
  }

  pub clear_done : ((k : ℕ) → slice_index zeros k ≡ 0) → (x : T) → Writes base zeros (Ok tt) t u → Clears base (Ok x) t u
  clear_done zero x writes = record {
    moments = (write_changes t u base 262144 zeros (Ok tt) long fits writes).moments;
    done = cleared base zeros t u fits long zero writes.ok;
    calls = omega (arith, ap (λ (v : Trail). length v.past) writes.ok);
  }
