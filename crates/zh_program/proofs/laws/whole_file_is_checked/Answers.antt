use Rattle.std.proofs.Common.{◌≤◌, ℕ, List, sym, subst, length, take, arith}
use Rattle.std.proofs.lemmas.List.{length-take}
use Rattle.zh_check.specs.Verdicts.{IsRight}
use Rattle.zh_program.proofs.CheckLemmas.{front_is_whole}
use Rattle.zh_program.proofs.laws.whole_file_is_checked.Goals as goal

pub returns : goal.returns
returns c canton held text right =
    let short : (bytes : List ℕ) → IsRight canton held bytes right → length bytes ≤ 280064 = λ bytes is.
    let longest = c.no_longer.ensures right.sheet right.head.desk right.head.accepted right.head.is_final is.meets.distribution is.desk.1 (omega (arith, is.accepted)) in
    subst (λ (t : List ℕ). length t ≤ 280064) (sym is.text) longest in (
      λ is. subst (λ (t : List ℕ). IsRight canton held t right) (front_is_whole text (short (take 280065 text) is)) is,
      λ is. subst (λ (t : List ℕ). IsRight canton held t right) (sym (front_is_whole text (front_short text (short text is)))) is,
    )
  where
    front_short : (bytes : List ℕ) → length bytes ≤ 280064 → length (take 280065 bytes) ≤ 280064
    front_short bytes few = omega (arith, length-take 280065 bytes)
