use Rattle.std.proofs.Common.{◌≡◌, ◌∙◌, ◌∷◌, [], ℕ, List, refl, sym, subst, Option, Bor}
use Rattle.std.specs.Prelude.{IsNone}
use Rattle.zh_ledger.specs.Stands.{Replays}
use Rattle.zh_ledger.proofs.ReplayLemmas.{remains_nothing, remains_next, remains_less, remains_stuck}
use Rattle.zh_ledger.proofs.opening.replay.Goals as goal

pub returns-then-not-replay_record-clause-refused : goal.returns-then-not-replay_record-clause-refused
returns-then-not-replay_record-clause-refused c = λ is records framed.
    let pages = c.args.reader.now.pages in
    let reader = c.loop-payload.reader in
    let kept = c.loop-payload.invariant in
    let next = remains_next pages reader.pages reader.page c.next.new.self.page c.args.reader.now.end reader.end c.args.count.now records
    c.loop-payload.count c.next.result c.in-Some.payload kept.pages kept.end c.in-Some.is c.next.ensures.none c.next.ensures.first
    (kept.remains records framed) in
    remains_stuck pages reader.page c.args.reader.now.end c.args.count.now records c.loop-payload.count next.0
    (λ command from. c.if-not-replay_record.ensures.refused refl command from.speakable (from.spelled ∙ sym next.1) from.accepted from.room)

pub loop-payload-preserved : goal.loop-payload-preserved
loop-payload-preserved c = record {
  pages = c.next.ensures.pages ∙ c.loop-payload.invariant.pages;
  end = c.next.ensures.end ∙ c.loop-payload.invariant.end;
  canton = c.replay_record.ensures.canton ∙ c.loop-payload.invariant.canton;
  remains = λ records framed.
      let pages = c.args.reader.now.pages in
      let reader = c.loop-payload.reader in
      let kept = c.loop-payload.invariant in
      let next = remains_next pages reader.pages reader.page c.next.new.self.page c.args.reader.now.end reader.end c.args.count.now records
      c.loop-payload.count c.next.result c.in-Some.payload kept.pages kept.end c.in-Some.is c.next.ensures.none c.next.ensures.first
      (kept.remains records framed) in
      remains_less pages reader.page c.args.reader.now.end c.args.count.now records c.loop-payload.count next.0 c.next.new.self.page c.replay_record.new.count next.2
      (subst (λ (r : List ℕ). Replays c.args.format c.loop-payload.count (r ∷ []) c.replay_record.new.count) next.1 (c.if-not-replay_record.ensures.replayed refl));
}

pub returns-clause-replayed : goal.returns-clause-replayed
returns-clause-replayed c = λ is records framed.
    let reader = c.loop-payload.reader in
    let last : reader.page ≡ c.args.reader.now.end = c.next.ensures.none.0 (subst (λ (o : Option (Bor (List ℕ))). IsNone o) (sym c.in_default.is) refl) ∙ c.loop-payload.invariant.end in
    remains_nothing c.args.reader.now.pages reader.page c.args.reader.now.end c.args.count.now records c.loop-payload.count last (c.loop-payload.invariant.remains records framed)
