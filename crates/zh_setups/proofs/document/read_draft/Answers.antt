use Rattle.std.proofs.Common.{◌≡◌, length, map, codes, refl, ap, arith}
use Rattle.std.proofs.lemmas.List.{length-map}
use Rattle.std.proofs.lemmas.Result.{err_from_is_err_and}
use Rattle.toml.specs.View.{table_view}
use Rattle.toml.specs.Data.{get_member}
use Rattle.zh_setups.specs.Document.{◌>>=◌, number_within, each, values_at, constituency_from, municipality_from, group_from, quorum_of, setup_of}
use Rattle.zh_setups.specs.Outcomes.{within_range}
use Rattle.zh_districts.specs.Parts.{constituency, municipality, group}
use Rattle.zh_setups.proofs.EachLemmas.{said_ok, fails_through}
use Rattle.zh_setups.proofs.SetupLemmas.{constituencies_read, no_municipalities, no_groups, no_quorum, setup_read}
use Rattle.zh_setups.proofs.document.read_draft.Goals as goal

pub overflow_cast-count : goal.overflow_cast-count
overflow_cast-count c =
    let document = table_view c.args.document.now in
    let items = c.in_ok-constituencies.constituencies.items in
    let read = constituencies_read document (map constituency items)
    (said_ok (values_at (codes "constituency") 32 document >>= each constituency_from) (map constituency items) c.in_ok-constituencies.ensures) in
    omega (arith, read.few, length-map items constituency, c.len-count.ensures, c.in_ok-constituencies.constituencies.ok.0)

pub returns-in_err-_version : goal.returns-in_err-_version
returns-in_err-_version c =
    let document = table_view c.args.document.now in
    let p = err_from_is_err_and c.from_residual.result c.from_residual.ensures.1 in
    rw (p.1, p.2) (fails_through c.in_err-_version.field-0.0 (get_member (codes "version") document >>= number_within 1 2) (setup_of document) (λ none. rw none refl) c.in_err-_version.ensures)

pub returns-in_err-house : goal.returns-in_err-house
returns-in_err-house c =
    let document = table_view c.args.document.now in
    let p = err_from_is_err_and c.from_residual-in_err-house.result c.from_residual-in_err-house.ensures.1 in
    let v = said_ok (get_member (codes "version") document >>= number_within 1 2) c.in_ok-_version._version c.in_ok-_version.ensures in
    rw (p.1, p.2) (fails_through c.in_err-house.field-0.0 (get_member (codes "house") document >>= number_within 1 400) (setup_of document) (λ none. rw (v, none) refl) c.in_err-house.ensures)

pub returns-in_err-constituencies : goal.returns-in_err-constituencies
returns-in_err-constituencies c =
    let document = table_view c.args.document.now in
    let p = err_from_is_err_and c.from_residual-in_err-constituencies.result c.from_residual-in_err-constituencies.ensures.1 in
    let v = said_ok (get_member (codes "version") document >>= number_within 1 2) c.in_ok-_version._version c.in_ok-_version.ensures in
    let h = said_ok (get_member (codes "house") document >>= number_within 1 400) c.in_ok-house.house c.in_ok-house.ensures in
    rw (p.1, p.2) (fails_through c.in_err-constituencies.field-0.0 (values_at (codes "constituency") 32 document >>= each constituency_from)
    (setup_of document) (λ none. rw (v, h, none) refl) c.in_err-constituencies.ensures)

pub returns-in_err-municipalities : goal.returns-in_err-municipalities
returns-in_err-municipalities c =
    let document = table_view c.args.document.now in
    let items = c.in_ok-constituencies.constituencies.items in
    let n = c.len-count.result in
    let p = err_from_is_err_and c.from_residual-in_err-municipalities.result c.from_residual-in_err-municipalities.ensures.1 in
    let v = said_ok (get_member (codes "version") document >>= number_within 1 2) c.in_ok-_version._version c.in_ok-_version.ensures in
    let h = said_ok (get_member (codes "house") document >>= number_within 1 400) c.in_ok-house.house c.in_ok-house.ensures in
    let cs = said_ok (values_at (codes "constituency") 32 document >>= each constituency_from) (map constituency items) c.in_ok-constituencies.ensures in
    let len : length (map constituency items) ≡ n = omega (arith, length-map items constituency, c.len-count.ensures, c.in_ok-constituencies.constituencies.ok.0) in
    rw (p.1, p.2) (fails_through c.in_err-municipalities.field-0.0
    (values_at (codes "municipality") 512 document >>= each (municipality_from n)) (setup_of document)
    (no_municipalities document _ _ n _ v h cs len) c.in_err-municipalities.ensures)

pub returns-in_err-groups : goal.returns-in_err-groups
returns-in_err-groups c =
    let document = table_view c.args.document.now in
    let items = c.in_ok-constituencies.constituencies.items in
    let n = c.len-count.result in
    let p = err_from_is_err_and c.from_residual-in_err-groups.result c.from_residual-in_err-groups.ensures.1 in
    let v = said_ok (get_member (codes "version") document >>= number_within 1 2) c.in_ok-_version._version c.in_ok-_version.ensures in
    let h = said_ok (get_member (codes "house") document >>= number_within 1 400) c.in_ok-house.house c.in_ok-house.ensures in
    let cs = said_ok (values_at (codes "constituency") 32 document >>= each constituency_from) (map constituency items) c.in_ok-constituencies.ensures in
    let len : length (map constituency items) ≡ n = omega (arith, length-map items constituency, c.len-count.ensures, c.in_ok-constituencies.constituencies.ok.0) in
    let ms = said_ok (values_at (codes "municipality") 512 document >>= each (municipality_from n)) (map municipality c.in_ok-municipalities.municipalities.items) c.in_ok-municipalities.ensures in
    rw (p.1, p.2) (fails_through c.in_err-groups.field-0.0 (values_at (codes "group") 32 document >>= each (group_from n))
    (setup_of document) (no_groups document _ _ n _ _ v h cs len ms) c.in_err-groups.ensures)

pub returns-in_err-canton_quorum : goal.returns-in_err-canton_quorum
returns-in_err-canton_quorum c =
    let document = table_view c.args.document.now in
    let items = c.in_ok-constituencies.constituencies.items in
    let n = c.len-count.result in
    let p = err_from_is_err_and c.from_residual-in_err-canton_quorum.result c.from_residual-in_err-canton_quorum.ensures.1 in
    let v = said_ok (get_member (codes "version") document >>= number_within 1 2) c.in_ok-_version._version c.in_ok-_version.ensures in
    let h = said_ok (get_member (codes "house") document >>= number_within 1 400) c.in_ok-house.house c.in_ok-house.ensures in
    let cs = said_ok (values_at (codes "constituency") 32 document >>= each constituency_from) (map constituency items) c.in_ok-constituencies.ensures in
    let len : length (map constituency items) ≡ n = omega (arith, length-map items constituency, c.len-count.ensures, c.in_ok-constituencies.constituencies.ok.0) in
    let ms = said_ok (values_at (codes "municipality") 512 document >>= each (municipality_from n)) (map municipality c.in_ok-municipalities.municipalities.items) c.in_ok-municipalities.ensures in
    let gs = said_ok (values_at (codes "group") 32 document >>= each (group_from n)) (map group c.in_ok-groups.groups.items) c.in_ok-groups.ensures in
    rw (p.1, p.2) (fails_through c.in_err-canton_quorum.field-0.0 (quorum_of (get_member (codes "canton_quorum") document))
    (setup_of document) (no_quorum document _ _ n _ _ _ v h cs len ms gs) c.in_err-canton_quorum.ensures)

pub returns : goal.returns
returns c =
    let document = table_view c.args.document.now in
    let items = c.in_ok-constituencies.constituencies.items in
    let n = c.len-count.result in
    let v = said_ok (get_member (codes "version") document >>= number_within 1 2) c.in_ok-_version._version c.in_ok-_version.ensures in
    let h = said_ok (get_member (codes "house") document >>= number_within 1 400) c.in_ok-house.house c.in_ok-house.ensures in
    let cs = said_ok (values_at (codes "constituency") 32 document >>= each constituency_from) (map constituency items) c.in_ok-constituencies.ensures in
    let len : length (map constituency items) ≡ n = omega (arith, length-map items constituency, c.len-count.ensures, c.in_ok-constituencies.constituencies.ok.0) in
    let ms = said_ok (values_at (codes "municipality") 512 document >>= each (municipality_from n)) (map municipality c.in_ok-municipalities.municipalities.items) c.in_ok-municipalities.ensures in
    let gs = said_ok (values_at (codes "group") 32 document >>= each (group_from n)) (map group c.in_ok-groups.groups.items) c.in_ok-groups.ensures in
    let q = said_ok (quorum_of (get_member (codes "canton_quorum") document)) c.in_ok-canton_quorum.canton_quorum c.in_ok-canton_quorum.ensures in
    ap within_range (setup_read document _ _ n _ _ _ _ v h cs len ms gs q)
