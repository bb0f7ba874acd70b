use Rattle.std.proofs.Common.{◌≡◌, ◌*◌, ◌/◌, ◌∙◌, List, length, map, sym, subst, arith}
use Rattle.std.specs.Prelude.{All}
use Rattle.std.specs.List.{flat_map, IsDistinct}
use Rattle.std.specs.Ordering.{eq_by_cmp}
use Rattle.std.proofs.lemmas.Bool.{both_ways}
use Rattle.std.proofs.lemmas.List.{take_all}
use Rattle.zh_returns.specs.declared.row.Row.{Row}
use Rattle.zh_returns.specs.RowBytes.{rows_in}
use Rattle.zh_returns.specs.Rows.{row_key, row_spelling, IsSpeakableRow, IsBatch}
use Rattle.zh_returns.specs.Keys.{key_cmp}
use Rattle.zh_returns.proofs.RowBytesLemmas.{length-rows_from, rows_spelled, rows_are}
use Rattle.zh_returns.proofs.rows.Rows.read.Goals as goal
use Rattle.zh_returns.proofs.rows.Rows.read.Goals.{then-bytes-count-via-then-bytes-count}
use Rattle.zh_returns.proofs.rows.Rows.read.Goals.{then-bytes-count-via-else-bytes-count+then-count-eq0}
use Rattle.zh_returns.proofs.rows.Rows.read.Goals.{then-bytes-count-via-else-bytes-count+else-count-eq0+then-count-gt-MOST_ROWS}
use Rattle.zh_returns.proofs.rows.Rows.read.Goals.{then-not-are_numbered-via-then-not-are_numbered}
use Rattle.zh_returns.proofs.rows.Rows.read.Goals.{then-not-are_numbered-via-else-not-are_numbered+then-not-have_own_keys}

-- the bytes are not those of 1 to 1,000 rows
pub returns-then-bytes-count : goal.returns-then-bytes-count
returns-then-bytes-count c = record {
  read = tt;
  refused = λ rows batch spelled.
      let r = rows_are rows c.args.bytes.now batch.are_rows.speakable spelled in
      elim c.then-bytes-count.branch [
        | then-bytes-count-via-then-bytes-count w ↦ omega (arith, r.whole, batch.some, batch.are_rows.most)
        | then-bytes-count-via-else-bytes-count+then-count-eq0 w ↦ omega (arith, r.whole, batch.some, batch.are_rows.most)
        | then-bytes-count-via-else-bytes-count+else-count-eq0+then-count-gt-MOST_ROWS w ↦ omega (arith, r.whole, batch.some, batch.are_rows.most)
      ];
}

-- a replacement number is 0, or two rows have the same key
pub returns-then-not-are_numbered : goal.returns-then-not-are_numbered
returns-then-not-are_numbered c = record {
  read = tt;
  refused = λ rows batch spelled.
      let r = rows_are rows c.args.bytes.now batch.are_rows.speakable spelled in
      let speakable : All IsSpeakableRow (rows_in c.args.bytes.now) = subst (All IsSpeakableRow) (sym r.same) batch.are_rows.speakable in
      let keys : IsDistinct (eq_by_cmp key_cmp) (map row_key (rows_in c.args.bytes.now)) =
      subst (λ (rs : List Row). IsDistinct (eq_by_cmp key_cmp) (map row_key rs)) (sym r.same) batch.are_rows.keys in
      elim c.then-not-are_numbered.branch [
        | then-not-are_numbered-via-then-not-are_numbered w ↦ both_ways c.are_numbered.result w.if-not-are_numbered.true (c.are_numbered.ensures.1 speakable)
        | then-not-are_numbered-via-else-not-are_numbered+then-not-have_own_keys w ↦ both_ways w.have_own_keys.result w.if-not-have_own_keys.true (w.have_own_keys.ensures.1 keys)
      ];
}

-- the bytes are those of a batch
are_batch : (c : goal.Else-not-have_own_keys) → IsBatch (rows_in c.args.bytes.now)
are_batch c =
    let count = length-rows_from (length c.args.bytes.now / 11) c.args.bytes.now in
    record {
      some = omega arith;
      are_rows = record { most = omega arith; speakable = c.are_numbered.ensures.0 c.if-not-are_numbered.false; keys = c.have_own_keys.ensures.0 c.if-not-have_own_keys.false };
    }

-- the bytes are those of these rows
spelled_so : (c : goal.Else-not-have_own_keys) → flat_map row_spelling (rows_in c.args.bytes.now) ≡ c.args.bytes.now
spelled_so c =
    let n = length c.args.bytes.now / 11 in
    rows_spelled n c.args.bytes.now (λ i. omega (arith, c.type_inv.bytes i)) (omega arith) ∙ take_all (11 * n) c.args.bytes.now (omega arith)

pub invariant_of-result : goal.invariant_of-result
invariant_of-result c = record { spelling = spelled_so c; batch = are_batch c }

pub returns : goal.returns
returns c = record { read = (are_batch c, spelled_so c); refused = tt }
