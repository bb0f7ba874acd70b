use Rattle.std.proofs.Common.{◌≡◌, ◌∙◌, IfSome, sym, subst, arith, rules}
use Rattle.std.proofs.lemmas.Grind.{common_steps}
use Rattle.zh_returns.specs.declared.entry.Entry.{Entry}
use Rattle.zh_returns.specs.Limits.{IsEntryOf}
use Rattle.zh_returns.specs.Tables.{IsHeldAt, key_of}
use Rattle.zh_returns.proofs.EntryBytesLemmas.{entry_once}
use Rattle.zh_returns.proofs.TallyTableLemmas.{if_weaker}
use Rattle.zh_returns.proofs.payload.read_held.Goals as goal

pub returns : goal.returns
returns c = record { read = search rules; refused = tt }

pub returns-then-is_some-2 : goal.returns-then-is_some-2
returns-then-is_some-2 c =
    let IsHere : Entry → Type 0 = IsHeldAt c.args.format c.args.setup.now (key_of c.args.place) in
    record {
      read = tt;
      refused = λ other within spelled.
          let limits = if_weaker IsHere (IsEntryOf c.args.format) other (λ entry is. is.limits) within in
          let same : other ≡ c.in_ok-held.held =
          entry_once c.args.format other c.in_ok-held.held limits c.in_ok-held.ensures.read.0 (spelled ∙ sym c.in_ok-held.ensures.read.1) in
          let here : IfSome c.in_ok-held.held IsHere = subst (λ h. IfSome h IsHere) same within in
          grind (arith, common_steps);
    }
