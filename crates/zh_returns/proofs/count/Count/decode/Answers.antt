use Rattle.std.proofs.Common.{◌≡◌, ◌∙◌, ℕ, List, Vec, Bool, false, Option, None, length, sym, ap, subst, arith, rules}
use Rattle.std.proofs.lemmas.Grind.{common_steps}
use Rattle.std.specs.Vec.{with_items}
use Rattle.std.proofs.lemmas.List.{with_items_is}
use Rattle.std.specs.List.{All}
use Rattle.zh_districts.specs.Canton.{Canton}
use Rattle.zh_returns.specs.declared.entry.Entry.{Entry}
use Rattle.zh_returns.specs.Limits.{IsTally}
use Rattle.zh_returns.specs.Payload.{IsPayload}
use Rattle.zh_returns.specs.Tables.{entries_of, closed_of, tally_from}
use Rattle.zh_returns.specs.Tally.{Tally, empty}
use Rattle.zh_returns.proofs.EntryTableLemmas.{entries_of-absent}
use Rattle.zh_returns.proofs.FlagLemmas.{closed_of-unset}
use Rattle.zh_returns.proofs.LimitsLemmas.{IsTally-empty}
use Rattle.zh_returns.proofs.count.Count.decode.Goals as goal

items_twice : {X Z : Type 0} (v : Vec X Z) (first second : List X) → length second ≡ v.len → (with_items (with_items v first) second).items ≡ second
items_twice v first second len = with_items_is (with_items v first) second len

-- the count in cleared tables is empty
stands_for : {Z : Type 0} (canton : Canton) (entries : Vec (Option Entry) Z) (closed : Vec Bool Z) (before table : List (Option Entry))
    (others flags : List Bool) → length table ≡ entries.len → length flags ≡ closed.len →
    All (λ (entry : Option Entry). entry ≡ None) table → All (λ (flag : Bool). flag ≡ false) flags →
    tally_from canton (with_items (with_items entries before) table).items (with_items (with_items closed others) flags).items 0 ≡ empty canton
stands_for canton entries closed before table others flags table_length flags_length absent unset =
    let none = ap entries_of (items_twice entries before table table_length) ∙ entries_of-absent table absent in
    let unclosed = ap closed_of (items_twice closed others flags flags_length) ∙ closed_of-unset flags unset in
    λ i. record { canton = canton; entries = none i; closed = unclosed i; accepted = 0 }

pub invariant_of-self-in-None : goal.invariant_of-self-in-None
invariant_of-self-in-None c =
    let table_length = c.clear_entries.ensures.length ∙ c.deref_mut-in-None.ensures.len in
    let flags_length = c.clear_flags.ensures.length ∙ c.deref_mut-in-None-2.ensures.len in
    let same_table = items_twice c.self.inside.entries c.read_tables.new.entries c.clear_entries.new.table table_length in
    let same_flags = items_twice c.self.inside.closed c.read_tables.new.closed c.clear_flags.new.flags flags_length in
    let cleared = stands_for c.self.inside.setup.now c.self.inside.entries c.self.inside.closed c.read_tables.new.entries
    c.clear_entries.new.table c.read_tables.new.closed c.clear_flags.new.flags table_length flags_length
    c.clear_entries.ensures.blank c.clear_flags.ensures.blank in
    record {
      places = ap length same_table ∙ table_length ∙ sym c.deref_mut.ensures.len
          ∙ ap length c.deref_mut.ensures.value ∙ c.self.invariant.places;
      flags = ap length same_flags ∙ flags_length ∙ sym c.deref_mut-2.ensures.len
          ∙ ap length c.deref_mut-2.ensures.value ∙ c.self.invariant.flags;
      tally = subst IsTally (sym cleared) (IsTally-empty c.self.inside.setup.now c.self.invariant.tally.canton);
    }

pub returns-in-None : goal.returns-in-None
returns-in-None c =
    let table_length = c.clear_entries.ensures.length ∙ c.deref_mut-in-None.ensures.len in
    let flags_length = c.clear_flags.ensures.length ∙ c.deref_mut-in-None-2.ensures.len in
    let cleared = stands_for c.self.inside.setup.now c.self.inside.entries c.self.inside.closed c.read_tables.new.entries
    c.clear_entries.new.table c.read_tables.new.closed c.clear_flags.new.flags table_length flags_length
    c.clear_entries.ensures.blank c.clear_flags.ensures.blank in
    record {
      canton = search rules;
      limits = subst IsTally (sym cleared) (IsTally-empty c.self.inside.setup.now c.self.invariant.tally.canton);
      read = search rules;
      refused = λ _ format tally canton is spelled.
          c.in-None.ensures.refused format tally (canton ∙ sym (ap (λ (t : Tally). t.canton) c.self.view_is)) is spelled;
      empty = λ _. cleared ∙ ap (λ (t : Tally). empty t.canton) c.self.view_is;
    }

pub read_tables-requires : goal.read_tables-requires
read_tables-requires c = record {
  entries = ap length c.deref_mut.ensures.value ∙ c.self.invariant.places;
  closed = ap length c.deref_mut-2.ensures.value ∙ c.self.invariant.flags;
}

-- the count in tables that were read
read_for : {Z : Type 0} (canton : Canton) (entries : Vec (Option Entry) Z) (closed : Vec Bool Z) (table : List (Option Entry))
    (flags : List Bool) (accepted : ℕ) → length table ≡ entries.len → length flags ≡ closed.len →
    tally_from canton (with_items entries table).items (with_items closed flags).items accepted ≡ tally_from canton table flags accepted
read_for canton entries closed table flags accepted table_length flags_length =
    ap (λ (t : List (Option Entry)). tally_from canton t (with_items closed flags).items accepted)
    (with_items_is entries table table_length) ∙ ap (λ (f : List Bool). tally_from canton table f accepted)
    (with_items_is closed flags flags_length)

pub returns-in-Some : goal.returns-in-Some
returns-in-Some c =
    let table_length = c.read_tables.ensures.entries_length ∙ c.deref_mut.ensures.len in
    let flags_length = c.read_tables.ensures.closed_length ∙ c.deref_mut-2.ensures.len in
    let same = read_for c.self.inside.setup.now c.self.inside.entries c.self.inside.closed c.read_tables.new.entries
    c.read_tables.new.closed c.in-Some.accepted table_length flags_length in
    let (format, spelled) = c.in-Some.ensures.read in
    record {
      canton = search rules;
      limits = subst IsTally (sym same) c.in-Some.ensures.limits;
      read = λ _. (format, subst (λ (t : Tally). IsPayload format t c.args.bytes.now) (sym same) spelled);
      refused = search rules;
      empty = search rules;
    }

pub invariant_of-self : goal.invariant_of-self
invariant_of-self c = grind (arith, common_steps)
