use Rattle.std.proofs.Common.{◌≡◌, ◌++◌, take, drop, length, sym, ap, ◌∙◌, arith}
use Rattle.zh_matrices.specs.Asked.{asked}
use Rattle.zh_matrices.specs.Divisors.{millionths}
use Rattle.zh_matrices.proofs.CallerLemmas.{weakened}
use Rattle.zh_decided.proofs.ImpossibleLemmas.{no_divisors, no_matrix}
use Rattle.zh_decided.proofs.SliceLemmas.{written_whole}
use Rattle.zh_decided.proofs.TableLemmas.{are-logs, are-tables}
use Rattle.zh_decided.proofs.decision.decide.Goals as goal

pub place_all-requires-clause-seats : goal.place_all-requires-clause-seats
place_all-requires-clause-seats c = ap length c.deref_mut.ensures.value ∙ c.requires.room.findings.seats

pub returns-in-Err-clause-impossible : goal.returns-in-Err-clause-impossible
returns-in-Err-clause-impossible c = (
  λ says possible. no_matrix (asked c.args.question.now) c.in-Err.rows c.in-Err.ensures.too_few possible.0 possible.1,
  λ none. tt,
)

pub returns-in-Err-clause-none : goal.returns-in-Err-clause-none
returns-in-Err-clause-none c = λ rows columns seats given.
    no_divisors (asked c.args.question.now) c.in-Err.rows c.in-Err.ensures.too_few (millionths rows columns) seats
    (weakened (asked c.args.question.now) (millionths rows columns) seats given.strict)

pub take_vote_logarithms-requires : goal.take_vote_logarithms-requires
take_vote_logarithms-requires c =
    ap length c.deref_mut-2.ensures.value ∙ (c.requires.room.vote_logarithms ∙ sym c.args.question.now.sized.length_votes)

pub take_odd_logarithms-requires : goal.take_odd_logarithms-requires
take_odd_logarithms-requires c = omega (arith, ap length c.deref_mut-3.ensures.value, c.requires.room.odd_logarithms)

pub invariant_of-logarithms : goal.invariant_of-logarithms
invariant_of-logarithms c =
    let votes : c.deref.result.now ≡ c.take_vote_logarithms.new.into = c.deref.ensures.value ∙ written_whole _ _ _ (omega arith) in
    let odds : c.deref-2.result.now ≡ c.take_odd_logarithms.new.into = c.deref-2.ensures.value ∙ written_whole _ _ _ (omega arith) in
    record {
      taken = rw (votes, odds) (are-logs c.args.question.now.votes.now c.take_vote_logarithms.new.into c.take_odd_logarithms.new.into
          c.take_vote_logarithms.ensures c.take_odd_logarithms.ensures.logs
          (omega (arith, c.take_odd_logarithms.ensures.length, c.requires.room.odd_logarithms)));
    }

pub decide_by-requires-clause-tables : goal.decide_by-requires-clause-tables
decide_by-requires-clause-tables c =
    let votes : c.deref.result.now ≡ c.take_vote_logarithms.new.into = c.deref.ensures.value ∙ written_whole _ _ _ (omega arith) in
    let odds : c.deref-2.result.now ≡ c.take_odd_logarithms.new.into = c.deref-2.ensures.value ∙ written_whole _ _ _ (omega arith) in
    rw (votes, odds) (are-tables (asked c.args.question.now) c.take_vote_logarithms.new.into c.take_odd_logarithms.new.into
    c.args.question.now.sized.length_votes c.take_vote_logarithms.ensures c.take_odd_logarithms.ensures.logs
    (omega (arith, c.take_odd_logarithms.ensures.length, c.requires.room.odd_logarithms)))

pub decide_by-requires-clause-fits : goal.decide_by-requires-clause-fits
decide_by-requires-clause-fits c =
    let seats : take c.args.room.now.findings.seats.len (c.place_all.new.seats ++ drop (length c.place_all.new.seats) c.args.room.now.findings.seats.items)
    ≡ c.place_all.new.seats = written_whole _ _ _ (omega arith) in
    rw seats c.in_default.ensures.fits

pub decide_by-requires-clause-room : goal.decide_by-requires-clause-room
decide_by-requires-clause-room c =
    let seats : take c.args.room.now.findings.seats.len (c.place_all.new.seats ++ drop (length c.place_all.new.seats) c.args.room.now.findings.seats.items)
    ≡ c.place_all.new.seats = written_whole _ _ _ (omega arith) in
    record {
      seats = ap length seats ∙ c.in_default.ensures.fits.one_each;
      of_rows = c.requires.room.findings.of_rows;
      of_columns = c.requires.room.findings.of_columns;
      others = c.requires.room.findings.others;
    }

pub returns-clause-decides : goal.returns-clause-decides
returns-clause-decides c = c.decide_by.ensures.decides

pub returns-clause-impossible : goal.returns-clause-impossible
returns-clause-impossible c = (
  λ says. absurd (c.decide_by.ensures.possible says),
  λ none. absurd (none (c.place_all.new.seats, c.in_default.ensures.fits)),
)

pub returns-clause-none : goal.returns-clause-none
returns-clause-none c = c.decide_by.ensures.none
