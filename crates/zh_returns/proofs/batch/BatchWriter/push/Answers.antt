use Rattle.std.proofs.Common.{◌≤◌, ◌+◌, ◌-◌, ◌*◌, ◌∙◌, ℕ, List, [], ◌∷◌, ◌++◌, length, ap, arith, rules}
use borrow.Rule.Slice.PartMut.{put_mid}
use Rattle.zh_returns.specs.declared.row.Row.{Row}
use Rattle.zh_returns.specs.Pushed.{Pushed}
use Rattle.zh_returns.specs.RowBytes.{rows_from}
use Rattle.zh_returns.specs.Rows.{row_key, has_key, IsSpeakableRow}
use Rattle.zh_returns.proofs.RowBytesLemmas.{length-rows_from}
use Rattle.zh_returns.proofs.PushLemmas.{IsPushed, pushed}
use Rattle.zh_returns.proofs.batch.BatchWriter.push.Goals as goal

pub slice_bounds-write_row-end : goal.slice_bounds-write_row-end
slice_bounds-write_row-end c =
    let count = length-rows_from c.self.inside.count c.self.inside.bytes.now in
    let rows = ap (λ (p : Pushed). length p.rows) c.self.view_is in
    let room = ap (λ (p : Pushed). p.room) c.self.view_is in
    let within : 11 * c.self.inside.count + 11 ≤ length c.self.inside.bytes.now = omega (arith, c.requires.room) in
    search rules

abbrev pushed_of : List Row → ℕ → Pushed
pushed_of rows room = record { rows = rows; room = room }

after_write : (c : goal.After-self-2-1) → IsPushed c.self.inside.bytes.now c.self.inside.count c.args.row
    (put_mid (11 * c.self.inside.count) (11 * c.self.inside.count + 11 - 11 * c.self.inside.count) c.self.inside.bytes.now c.write_row.new.out)
after_write c =
    let n = c.self.inside.count in
    let bytes = c.self.inside.bytes.now in
    let count = length-rows_from n bytes in
    let rows = ap (λ (p : Pushed). length p.rows) c.self.view_is in
    let room = ap (λ (p : Pushed). p.room) c.self.view_is in
    let speakable : IsSpeakableRow c.args.row = record { municipality = c.requires.fits.0; list = c.requires.fits.1; number = (c.requires.number, omega arith); votes = omega arith } in
    pushed bytes n (11 * n + 11 - 11 * n) c.args.row c.write_row.new.out c.self.invariant speakable
    (ap (λ (p : Pushed). has_key p.rows (row_key c.args.row)) c.self.view_is ∙ c.requires.new)
    (omega (arith, c.requires.few)) (omega (arith, c.requires.room)) (omega arith) c.write_row.ensures

pub invariant_of-self : goal.invariant_of-self
invariant_of-self c = (after_write c).written

pub returns : goal.returns
returns c =
    let p = after_write c in
    let row = c.args.row in
    ap (λ (rows : List Row). pushed_of rows (length (put_mid (11 * c.self.inside.count) (11 * c.self.inside.count + 11 - 11 * c.self.inside.count) c.self.inside.bytes.now c.write_row.new.out))) p.rows
    ∙ ap (λ (room : ℕ). pushed_of (rows_from c.self.inside.count c.self.inside.bytes.now ++ (row ∷ [])) room) p.room
    ∙ ap (λ (w : Pushed). pushed_of (w.rows ++ (row ∷ [])) w.room) c.self.view_is
