use Rattle.std.proofs.Common.{◌≡◌, ◌++◌, length, List, ℕ, false, refl, sym, ap, subst, arith, rules}
use Rattle.std.proofs.KnownBytes.{Consumes-nil}
use Rattle.std.specs.Io.KnownBytes.{Consumes}
use Rattle.zh_csv.specs.Noted.{inner_reader}
use Rattle.zh_program.proofs.TaskFrontLemmas.{few_on, front_read, read_on}
use Rattle.zh_program.proofs.sheet_front.read_front.Goals as goal

pub loop-init : goal.loop-init
loop-init g c =
    let left = g.R.Read.remaining (inner_reader c.args.file.now) in
    record {
      read = subst (λ (l : List ℕ). Consumes left left l) (sym c.new-text.ensures.items) (Consumes-nil _);
      few = omega (arith, ap length c.new-text.ensures.items);
      unfailed = c.requires;
    }

pub loop-preserved : goal.loop-preserved
loop-preserved g c =
    let more = c.read_piece.ensures.read in
    let text : c.read_piece.new.text.items ≡ c.loop.text.items ++ more.0 = rw c.in_ok-read_piece.was at more.3 in
    record {
      read = read_on _ _ _ c.loop.text.items more.0 c.read_piece.new.text.items c.loop.invariant.read more.1 text;
      few = few_on c.loop.text.items more.0 c.read_piece.new.text.items more.2 text;
      unfailed = rw c.in_ok-read_piece.was at c.read_piece.ensures.unfailed;
    }

pub returns-in_err-read_piece-clause-read : goal.returns-in_err-read_piece-clause-read
returns-in_err-read_piece-clause-read g c =
    let more = c.read_piece.ensures.read in
    let all = c.loop.text.items ++ more.0 in
    (all, read_on _ _ _ c.loop.text.items more.0 all c.loop.invariant.read more.1 refl, few_on c.loop.text.items more.0 all more.2 refl)

pub returns-then-not-branch-clause-read : goal.returns-then-not-branch-clause-read
returns-then-not-branch-clause-read g c =
    let more = c.read_piece.ensures.read in
    let all = c.loop.text.items ++ more.0 in
    (all, read_on _ _ _ c.loop.text.items more.0 all c.loop.invariant.read more.1 refl, few_on c.loop.text.items more.0 all more.2 refl)

pub returns-then-not-branch-clause-few : goal.returns-then-not-branch-clause-few
returns-then-not-branch-clause-few g c =
    let more = c.read_piece.ensures.read in
    few_on c.loop.text.items more.0 c.read_piece.new.text.items more.2 (rw c.in_ok-read_piece.was at more.3)

pub returns-then-not-branch-clause-sheet : goal.returns-then-not-branch-clause-sheet
returns-then-not-branch-clause-sheet g c =
    let more = c.read_piece.ensures.read in
    let gone : c.in_ok-read_piece.field-0 ≡ false = search rules in
    let text : c.read_piece.new.text.items ≡ c.loop.text.items ++ more.0 = rw c.in_ok-read_piece.was at more.3 in
    let read = read_on _ _ _ c.loop.text.items more.0 c.read_piece.new.text.items c.loop.invariant.read more.1 text in
    let few = few_on c.loop.text.items more.0 c.read_piece.new.text.items more.2 text in
    front_read _ _ c.read_piece.new.text.items read few ((rw c.in_ok-read_piece.was at c.read_piece.ensures.end) gone)

pub returns-clause-read : goal.returns-clause-read
returns-clause-read g c = (c.loop.text.items, c.loop.invariant.read, c.loop.invariant.few)
