-- A row that is written after others.
use Rattle.std.proofs.Common.{◌≡◌, ◌<◌, ◌≤◌, ◌+◌, ◌-◌, ◌*◌, ◌∙◌, ℕ, false, List, [], ◌∷◌, ◌++◌, length, map, take, drop, sym, ap, subst, refl, arith, append_assoc, length-append}
use Rattle.std.specs.Prelude.{All}
use Rattle.std.specs.List.{flat_map, IsDistinct}
use Rattle.std.specs.Ordering.{eq_by_cmp}
use Rattle.std.proofs.lemmas.List.{append-nil, length-drop, take_at, map_push, length_push}
use Rattle.std.proofs.lemmas.List.Concat.{flat_map-append}
use Rattle.std.proofs.lemmas.List.Elements.{All-nil, All-push}
use Rattle.std.proofs.lemmas.Map.Keys.{IsDistinct-push}
use borrow.Rule.Slice.PartMut.{put_mid, post_of}
use Rattle.zh_returns.specs.declared.row.Row.{Row}
use Rattle.zh_returns.specs.Pushed.{AreWritten}
use Rattle.zh_returns.specs.RowBytes.{rows_from}
use Rattle.zh_returns.specs.Rows.{row_spelling, row_key, has_key, IsSpeakableRow, AreRows}
use Rattle.zh_returns.specs.Keys.{key_cmp}
use Rattle.zh_returns.proofs.RowBytesLemmas.{rows_wide, rows_back, length-rows_from}
use Rattle.zh_returns.proofs.BlockLemmas.{length-blocks}
use Rattle.zh_returns.proofs.KeyLemmas.{keys_alike}

-- at first there are no rows
pub none_pushed : (bytes : List ℕ) → rows_from 0 bytes ≡ []
unfolding rows_from
none_pushed bytes = refl

pub none_written : (bytes : List ℕ) → AreWritten bytes 0
unfolding rows_from IsDistinct
none_written bytes = record {
  within = omega arith;
  spelling = refl;
  rows = record { most = omega arith; speakable = All-nil IsSpeakableRow; keys = tt };
}

-- the bytes after a row was written behind the first rows
pub record IsPushed (bytes : List ℕ) (count : ℕ) (row : Row) (after : List ℕ) : Type 0 where
  pub rows : rows_from (count + 1) after ≡ rows_from count bytes ++ (row ∷ [])
  pub room : length after ≡ length bytes
  pub written : AreWritten after (count + 1)

-- these bytes spell the rows and the new row
spelled : (bytes : List ℕ) (count width : ℕ) (row : Row) (new : List ℕ) → AreWritten bytes count → new ≡ row_spelling row →
    put_mid (11 * count) width bytes new ≡ flat_map row_spelling (rows_from count bytes ++ (row ∷ [])) ++ post_of (11 * count) width bytes
spelled bytes count width row new before is =
    let rows = rows_from count bytes in
    let rest = post_of (11 * count) width bytes in
    ap (λ (front : List ℕ). front ++ (new ++ rest)) (sym before.spelling)
    ∙ ap (λ (bytes_of_row : List ℕ). flat_map row_spelling rows ++ (bytes_of_row ++ rest)) (is ∙ sym (append-nil (row_spelling row)))
    ∙ sym (append_assoc (flat_map row_spelling rows) (flat_map row_spelling (row ∷ [])) rest)
    ∙ ap (λ (front : List ℕ). front ++ rest) (sym (flat_map-append row_spelling rows (row ∷ [])))

pub pushed : (bytes : List ℕ) (count width : ℕ) (row : Row) (new : List ℕ) → AreWritten bytes count → IsSpeakableRow row → has_key (rows_from count bytes) (row_key row) ≡ false →
    count < 1000 → 11 * (count + 1) ≤ length bytes → width ≡ 11 → new ≡ row_spelling row → IsPushed bytes count row (put_mid (11 * count) width bytes new)
pushed bytes count width row new before speakable fresh few room eleven is =
    let rows = rows_from count bytes in
    let more = rows ++ (row ∷ []) in
    let rest = post_of (11 * count) width bytes in
    let after = put_mid (11 * count) width bytes new in
    let so = spelled bytes count width row new before is in
    let all : All IsSpeakableRow more = All-push IsSpeakableRow rows row before.rows.speakable speakable in
    let number : length more ≡ count + 1 = length_push rows row ∙ ap (λ (n : ℕ). n + 1) (length-rows_from count bytes) in
    let front : length (flat_map row_spelling more) ≡ 11 * (count + 1) = length-blocks row_spelling 11 rows_wide more ∙ ap (λ (n : ℕ). 11 * n) number in
    let back : length rest ≡ length bytes - 11 * count - width = length-drop width (drop (11 * count) bytes) ∙ ap (λ (n : ℕ). n - width) (length-drop (11 * count) bytes) in
    let whole : length after ≡ length bytes = ap (λ (b : List ℕ). length b) so ∙ length-append (flat_map row_spelling more) rest ∙ omega arith in
    let read : rows_from (count + 1) after ≡ more =
    ap (λ (n : ℕ). rows_from n after) (sym number) ∙ ap (rows_from (length more)) so ∙ rows_back more rest all in
    record {
      rows = read;
      room = whole;
      written = record {
        within = omega arith;
        spelling = ap (flat_map row_spelling) read ∙ sym (ap (take (11 * (count + 1))) so ∙ take_at (flat_map row_spelling more) rest (11 * (count + 1)) front);
        rows = subst AreRows (sym read) (record {
          most = omega arith;
          speakable = all;
          keys = subst (IsDistinct (eq_by_cmp key_cmp)) (sym (map_push row_key rows row)) (IsDistinct-push keys_alike (map row_key rows) (row_key row) before.rows.keys fresh);
        });
      };
    }
