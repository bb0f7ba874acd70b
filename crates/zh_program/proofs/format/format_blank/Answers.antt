use Rattle.std.proofs.Common.{rules, ◌≡◌, Ok, Err}
use Rattle.zh_journal.specs.declared.reader.Reader.{Reader}
use Rattle.zh_snapshot.specs.declared.store.Store.{Store}
use Rattle.zh_snapshot.specs.declared.fault.OpenFault.TheVariants as opening
use Rattle.zh_program.proofs.FormatLemmas.{blank_formatted, damaged_in_use, device_reported, memory_reported, store_in_use}
use Rattle.zh_program.proofs.format.format_blank.Goals as goal
use Rattle.zh_program.proofs.format.format_blank.Goals.{in-Err-Blank+in_ok-format-in-Err-Blank, in-Err-Device, in-Err-Memory, in-Err-Damaged, in-Err-Damaged-2}

pub returns-clause-call : goal.returns-clause-call
returns-clause-call g c =
    elim c.match-open.branch [
      | in-Err-Blank+in_ok-format-in-Err-Blank w ↦
          let is : c.open.result ≡ Err opening.Blank = search rules in
          rw (w.result-is, w.disk-is) (blank_formatted c.args.setup.now (rw is at c.open.ensures.call) w.in_ok-format-in-Err-Blank.ensures.call)
      | in-Err-Device w ↦
          let is : c.open.result ≡ Err opening.Device = search rules in
          rw (w.result-is, w.disk-is) (device_reported c.args.setup.now (rw is at c.open.ensures.call))
      | in-Err-Memory w ↦
          let is : c.open.result ≡ Err opening.Memory = search rules in
          rw (w.result-is, w.disk-is) (memory_reported c.args.setup.now (rw is at c.open.ensures.call))
      | in-Err-Damaged w ↦
          let is : c.open.result ≡ Err opening.Damaged = search rules in
          rw (w.result-is, w.disk-is) (damaged_in_use c.args.setup.now (rw is at c.open.ensures.call))
      | in-Err-Damaged-2 w ↦
          let (found, is) : (found : Store × Reader) × (c.open.result ≡ Ok found) = search rules in
          rw (w.result-is, w.disk-is) (store_in_use c.args.setup.now (rw is at c.open.ensures.call))
    ]

pub returns-clause-fault : goal.returns-clause-fault
returns-clause-fault g c =
    elim c.match-open.branch [
      | in-Err-Blank+in_ok-format-in-Err-Blank w ↦ rw w.result-is tt
      | in-Err-Device w ↦ rw w.result-is tt
      | in-Err-Memory w ↦ rw w.result-is tt
      | in-Err-Damaged w ↦ rw w.result-is tt
      | in-Err-Damaged-2 w ↦ rw w.result-is tt
    ]
