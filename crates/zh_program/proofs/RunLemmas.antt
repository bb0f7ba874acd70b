-- The exchanges of a run, one after another, if each is of a line.
use Rattle.std.proofs.Common.{◌≡◌, ℕ, List, [], ◌∷◌, ◌++◌, map, sym, subst, append_assoc, IsTrue, Option, Some}
use Rattle.std.proofs.lemmas.List.{append-nil}
use Rattle.zh_disk.specs.Disk.{Trail}
use Rattle.zh_districts.specs.Canton.{Canton}
use Rattle.zh_returns.specs.Tally.{Tally}
use Rattle.zh_ledger.specs.Submissions.{OnDisk}
use Rattle.zh_office.specs.Exchanges.{Exchange, Given, line_in, lines_given}
use Rattle.zh_office.specs.Exchanges.Given.{line, text}
use Rattle.zh_office.specs.Office.{Office}
use Rattle.zh_office.specs.Runs.{Runs}
use Rattle.zh_office.proofs.CallerLemmas.{run_honest}
use Rattle.zh_program.proofs.TurnLemmas.{AreTurns, CanRead, IsAt, at_rest, one_more}

line_read : (canton : Canton) (office : Office) (given : Given) (bytes : List ℕ) → Some bytes ≡ line_in given → CanRead canton office given
line_read canton office (line own reading) bytes is = tt
line_read canton office (text own loaded) bytes is = absurd cc

module _ (tally : Tally) (opened : Trail) where
  pub run_turns : (done : List Exchange) (old : OnDisk Office) (xs : List Exchange) (new : OnDisk Office)
      (lines : List (List ℕ)) (rest : List (Option (List ℕ))) → map Some lines ≡ lines_given xs ++ rest
      → Runs old xs new
      → IsTrue new.history.honest
      → IsAt tally opened done old
      → AreTurns tally opened done xs × IsAt tally opened (done ++ xs) new
  run_turns done old [] new lines rest are run honest at = (
    at_rest tally opened done old at,
    subst (λ (d : List Exchange). IsAt tally opened d new) (sym (append-nil done)) (subst (IsAt tally opened done) (sym run) at),
  )
  run_turns done old (x ∷ xs) new [] rest are run honest at = absurd cc
  run_turns done old (x ∷ xs) new (l ∷ lines) rest are (mid, turn, run) honest at =
      let this : Some l ≡ line_in x.given = cc in
      let others : map Some lines ≡ lines_given xs ++ rest = cc in
      let one = one_more tally opened done old mid x at (run_honest mid xs new honest run) turn (line_read tally.canton old.holder x.given l this) in
      let then = run_turns (done ++ x ∷ []) mid xs new lines rest others run honest one.1 in
      ((at_rest tally opened done old at, one.0, then.0), subst (λ (d : List Exchange). IsAt tally opened d new) (append_assoc done (x ∷ []) xs) then.1)
