use Rattle.std.proofs.Common.{◌≡◌, ◌+◌, ◌-◌, ◌≤◌, ℕ, inl, inr, ⊎_elim, length, take, drop, arith, refl, sym, ◌∙◌, ap, subst, Some}
use Rattle.std.proofs.lemmas.Bool.{cases_lt}
use Rattle.std.proofs.lemmas.List.{length-take-le}
use Rattle.zh_disk.proofs.CallerLemmas.{handed, followed, asks_more}
use Rattle.zh_journal.specs.Calls.{GivesPayload}
use Rattle.zh_journal.specs.Pages.{pages_of}
use Rattle.zh_journal.specs.Place.{Place}
use Rattle.zh_journal.proofs.WalkLemmas.{frames_cut, frames_room, record_there}
use Rattle.zh_journal.proofs.area.Area.record.Goals as goal

pub returns-clause-call : goal.returns-clause-call
returns-clause-call g c =
    let b = (g.D.Disk.history c.args.disk.now).trail.now.bytes in
    let base = c.self.inside.base in
    let page = c.in_ok-page.page in
    let len = c.in_ok-len.len in
    let buffer = c.read_record.new.buffer in
    let wide : length (take len buffer) ≡ len = length-take-le len buffer (omega (arith, c.read_record.auto.buffer, c.requires.buffer, c.in_ok-len.ensures.len.0)) in
    handed refl
    (λ h by. asks_more (λ finds gives. subst (λ (p : Place). GivesPayload p.base c.args.i b (take len buffer)) c.self.view_is
    (record {
      payload = λ rs j reads low.
          let here = frames_cut c.self.inside.base b page j c.args.i rs low (finds.found rs j reads low) in
          let room = frames_room c.self.inside.base b page j here.0 (drop (c.args.i + 1) rs) here.2 in
          here.1 ∙ ap Some (sym (gives.read here.0 here.2.0 here.2.1.0.0 here.2.1.0.1 (omega (arith, room, reads.1.0))).1);
      found = ⊎_elim
          (λ none. let zero : len ≡ 0 = omega arith in inl (ap (λ (n : ℕ). take n buffer) zero))
          (λ some.
          let room : pages_of len ≤ 1024 - page = c.in_ok-len.ensures.len.1 some in
          let room' : pages_of (length (take len buffer)) ≤ 1024 - page = subst (λ (n : ℕ). pages_of n ≤ 1024 - page) (sym wide) room in
          inr (record_there base c.args.i b page (take len buffer) (finds.stands (omega (arith, room))) (gives.stands some) (omega (arith, room'))))
          (cases_lt len 1);
    })) by.1 by.2)
    (followed refl c.in_ok-page.ensures.call c.in_ok-len.ensures.call)
