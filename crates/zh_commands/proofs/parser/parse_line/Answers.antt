use Rattle.std.proofs.Common.{ap, drop, length, sym, ◌∙◌, arith, decimal}
use Rattle.zh_commands.proofs.LineLemmas.{split_spelling, NamesDesk, length-spelling}
use Rattle.zh_commands.proofs.RequestLemmas.{request_text}
use Rattle.zh_commands.proofs.parser.parse_line.Goals as goal

pub returns-then-bytes-gt-LONGEST : goal.returns-then-bytes-gt-LONGEST
returns-then-bytes-gt-LONGEST c =
    let long = c.if-bytes-gt-LONGEST.true in
    record { reads = (λ names. omega (arith, names.0, long), λ line is e. omega (arith, ap length e, length-spelling line is, long)) }

pub returns-in_default : goal.returns-in_default
returns-in_default c =
    let split = c.split_word.ensures in
    let none = c.in_default.ensures in
    record {
      reads = (
        λ names. none names.1.0 names.1.1 (split.word ∙ names.1.3),
        λ line is e. none line.desk.number (omega (arith, line.desk.there)) (split_spelling _ _ _ line split.word split.whole e).0,
      );
    }

pub returns-in_default-after_space : goal.returns-in_default-after_space
returns-in_default-after_space c =
    let split = c.split_word.ensures in
    let word = c.in-Some.ensures.1 ∙ ap decimal (sym c.in-Some-new.ensures) in
    record {
      reads = (
        NamesDesk _ _ c.in-Some-new.desk split.word word,
        λ line is e. c.in_default-after_space.ensures (request_text line.request) (split_spelling _ _ _ line split.word split.whole e).1,
      );
    }

pub returns-in_default-request_of : goal.returns-in_default-request_of
returns-in_default-request_of c =
    let split = c.split_word.ensures in
    let word = c.in-Some.ensures.1 ∙ ap decimal (sym c.in-Some-new.ensures) in
    record {
      reads = (
        NamesDesk _ _ c.in-Some-new.desk split.word word,
        λ line is e. c.in_default-request_of.ensures line.request is (ap (drop 1) (sym c.in-Some-after_space.ensures ∙ (split_spelling _ _ _ line split.word split.whole e).1)),
      );
    }
