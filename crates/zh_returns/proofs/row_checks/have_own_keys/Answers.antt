use Rattle.std.proofs.Common.{◌≡◌, ◌<◌, ◌+◌, ◌-◌, ◌*◌, ◌/◌, ◌%◌, ◌^◌, ◌∙◌, ◌==◌, ◌||◌, ◌&&◌, ℕ, Bool, true, false, nat_lt, List, [], ◌∷◌, ◌++◌, length, get_or, map, take, sym, ap, subst, refl, arith}
use Rattle.std.specs.List.{IsDistinct, list_any}
use Rattle.std.specs.Ordering.{eq_by_cmp}
use Rattle.std.proofs.Math.Bool.{or_comm}
use Rattle.std.proofs.lemmas.Bool.{both_ways, not-true, not-false}
use Rattle.std.proofs.lemmas.List.{take_all, map_more, take-map, get_or-map, length-map}
use Rattle.std.proofs.lemmas.List.Folds.{list_any-append}
use Rattle.std.proofs.lemmas.Map.Keys.{IsDistinct-push}
use Rattle.std.proofs.lemmas.Nat.Bits.{bit_at-zero}
use Rattle.zh_returns.specs.declared.row.Row.{Row}
use Rattle.zh_returns.specs.KeySet.{has_mark, is_marked}
use Rattle.zh_returns.specs.RowBytes.{rows_in}
use Rattle.zh_returns.specs.Rows.{row_key}
use Rattle.zh_returns.specs.Keys.{key_cmp}
use Rattle.zh_returns.proofs.RowBytesLemmas.{length-rows_from, row_read_at}
use Rattle.zh_returns.proofs.KeyLemmas.{key_test, keys_alike, fresh_from_distinct}
use Rattle.zh_returns.proofs.row_checks.have_own_keys.Goals as goal

-- a byte that is 0 has no mark
unmarked : (marks : List ℕ) (place : ℕ) → get_or marks (place / 8) 0 ≡ 0 → is_marked marks place ≡ false
unmarked marks place zero = ap (λ (byte : ℕ). byte / 2 ^ (place % 8) % 2 == 1) zero ∙ ap (λ (bit : ℕ). bit == 1) (bit_at-zero (place % 8))

pub loop-i-init : goal.loop-i-init
unfolding IsDistinct
loop-i-init c = record {
  blocks = c.no_blocks-blocks.ensures.length;
  marks = c.no_marks-marks.ensures.length;
  set = record {
    most = λ m. omega (arith, c.no_blocks-blocks.ensures.zero m);
    own = λ m n some same. absurd (omega (arith, c.no_blocks-blocks.ensures.zero m));
    clear = λ place _. unmarked c.no_marks-marks.result place (c.no_marks-marks.ensures.zero (place / 8));
  };
  keys = λ m n _. ap (λ (block : ℕ). nat_lt 0 block && is_marked c.no_marks-marks.result ((block - 1) * 256 + n)) (c.no_blocks-blocks.ensures.zero m);
  distinct = tt;
}

-- one more row
more : (bytes : List ℕ) (i : ℕ) (row : Row) → i < length bytes / 11 → get_or (rows_in bytes) i row ≡ row
    → map row_key (take (i + 1) (rows_in bytes)) ≡ map row_key (take i (rows_in bytes)) ++ (row_key row ∷ [])
more bytes i row within here =
    let count = length-rows_from (length bytes / 11) bytes in
    map_more row_key (rows_in bytes) i row (omega arith) ∙ ap (λ (r : Row). map row_key (take i (rows_in bytes)) ++ (row_key r ∷ [])) here

pub returns-then-not-insert_key : goal.returns-then-not-insert_key
returns-then-not-insert_key c =
    let bytes = c.args.bytes.now in
    let i = c.loop-i.i in
    let row = c.row_of-row.result in
    let count = length-rows_from (length bytes / 11) bytes in
    let keys = map row_key (rows_in bytes) in
    let here = row_read_at bytes i row row (omega arith) c.row_of-row.ensures.row in
    let held : list_any (eq_by_cmp key_cmp (row_key row)) (map row_key (take i (rows_in bytes))) ≡ true =
    sym (c.loop-i.invariant.keys row.municipality row.list (omega (arith, c.row_of-row.ensures.fits.1)))
    ∙ not-false (has_mark c.loop-i.blocks c.loop-i.marks row.municipality row.list) (sym c.insert_key.ensures.fresh ∙ c.if-not-insert_key.true) in (
      (λ no. absurd (cc)),
      λ distinct.
          absurd (both_ways (list_any (eq_by_cmp key_cmp (row_key row)) (map row_key (take i (rows_in bytes)))) (
          ap (λ (r : Row). list_any (eq_by_cmp key_cmp (row_key r)) (map row_key (take i (rows_in bytes)))) (sym here)
          ∙ ap (λ (key : ℕ × ℕ). list_any (eq_by_cmp key_cmp key) (map row_key (take i (rows_in bytes)))) (sym (get_or-map row_key (rows_in bytes) i row (row_key row) (omega arith)))
          ∙ ap (list_any (eq_by_cmp key_cmp (get_or keys i (row_key row)))) (sym (take-map row_key i (rows_in bytes)))
          ∙ fresh_from_distinct keys i (row_key row) distinct (omega (arith, length-map (rows_in bytes) row_key))
          ) held),
    )

pub loop-i-preserved : goal.loop-i-preserved
loop-i-preserved c =
    let bytes = c.args.bytes.now in
    let i = c.loop-i.i in
    let row = c.row_of-row.result in
    let before = map row_key (take i (rows_in bytes)) in
    let here = row_read_at bytes i row row (omega arith) c.row_of-row.ensures.row in
    let step = more bytes i row (omega arith) here in
    let fresh : list_any (eq_by_cmp key_cmp (row_key row)) before ≡ false =
    sym (c.loop-i.invariant.keys row.municipality row.list (omega (arith, c.row_of-row.ensures.fits.1)))
    ∙ not-true (has_mark c.loop-i.blocks c.loop-i.marks row.municipality row.list) (sym c.insert_key.ensures.fresh ∙ c.if-not-insert_key.false) in
    record {
      blocks = c.insert_key.ensures.blocks ∙ c.loop-i.invariant.blocks;
      marks = c.insert_key.ensures.marks ∙ c.loop-i.invariant.marks;
      set = c.insert_key.ensures.set;
      keys = λ m n small.
          c.insert_key.ensures.keys m n small
          ∙ ap (λ (b : Bool). (m == row.municipality && n == row.list) || b) (c.loop-i.invariant.keys m n small)
          ∙ ap (λ (b : Bool). b || list_any (eq_by_cmp key_cmp (m, n)) before) (sym (key_test m n row.municipality row.list))
          ∙ or_comm (eq_by_cmp key_cmp (m, n) (row_key row)) (list_any (eq_by_cmp key_cmp (m, n)) before)
          ∙ ap (λ (b : Bool). list_any (eq_by_cmp key_cmp (m, n)) before || b) (or_comm false (eq_by_cmp key_cmp (m, n) (row_key row)))
          ∙ sym (list_any-append (eq_by_cmp key_cmp (m, n)) before (row_key row ∷ []))
          ∙ ap (list_any (eq_by_cmp key_cmp (m, n))) (sym step);
      distinct = subst (IsDistinct (eq_by_cmp key_cmp)) (sym step) (IsDistinct-push keys_alike before (row_key row) c.loop-i.invariant.distinct fresh);
    }

pub returns : goal.returns
returns c =
    let bytes = c.args.bytes.now in
    let count = length-rows_from (length bytes / 11) bytes in
    let all : IsDistinct (eq_by_cmp key_cmp) (map row_key (rows_in bytes)) =
    subst (λ (rows : List Row). IsDistinct (eq_by_cmp key_cmp) (map row_key rows)) (take_all c.loop-i.i (rows_in bytes) (omega arith)) c.loop-i.invariant.distinct in (
      (λ _. all),
      λ _. refl,
    )
