-- The parts of the set-up that a document describes.
use Rattle.std.proofs.Common.{◌≡◌, ℕ, List, length, Option, Some, codes, subst}
use Rattle.toml.specs.Data.{Members, get_member}
use Rattle.zh_districts.specs.Canton.{Canton, Constituency, Municipality, Group}
use Rattle.zh_setups.specs.Document.{◌>>=◌, number_within, each, values_at, constituency_from, municipality_from, group_from, quorum_of, setup_of}
use Rattle.zh_setups.proofs.ValueLemmas.{bind_some, some_is}

-- each part of the set-up is read from the document
pub record Parts (document : Members) (canton : Canton) : Type 0 where
  pub version : ℕ
  pub version_is : (get_member (codes "version") document >>= number_within 1 2) ≡ Some version
  pub house : (get_member (codes "house") document >>= number_within 1 400) ≡ Some canton.house
  pub constituencies : (values_at (codes "constituency") 32 document >>= each constituency_from) ≡ Some canton.constituencies
  pub municipalities : (values_at (codes "municipality") 512 document >>= each (municipality_from (length canton.constituencies))) ≡ Some canton.municipalities
  pub groups : (values_at (codes "group") 32 document >>= each (group_from (length canton.constituencies))) ≡ Some canton.groups
  pub quorum : quorum_of (get_member (codes "canton_quorum") document) ≡ Some canton.canton_quorum

pub parts_said : (document : Members) (canton : Canton) → setup_of document ≡ Some canton → Parts document canton
parts_said document canton e =
    let version = get_member (codes "version") document >>= number_within 1 2 in
    let house = get_member (codes "house") document >>= number_within 1 400 in
    let constituencies = values_at (codes "constituency") 32 document >>= each constituency_from in
    let municipalities = λ (n : ℕ). values_at (codes "municipality") 512 document >>= each (municipality_from n) in
    let groups = λ (n : ℕ). values_at (codes "group") 32 document >>= each (group_from n) in
    let quorum = quorum_of (get_member (codes "canton_quorum") document) in
    let a = bind_some version (λ v. house >>= λ h. constituencies >>= λ cs. municipalities (length cs) >>= λ ms. groups (length cs) >>= λ gs. quorum >>= λ q. Some (made_of h cs ms gs q)) canton e in
    let b = bind_some house (λ h. constituencies >>= λ cs. municipalities (length cs) >>= λ ms. groups (length cs) >>= λ gs. quorum >>= λ q. Some (made_of h cs ms gs q)) canton a.2 in
    let c = bind_some constituencies (λ cs. municipalities (length cs) >>= λ ms. groups (length cs) >>= λ gs. quorum >>= λ q. Some (made_of b.0 cs ms gs q)) canton b.2 in
    let d = bind_some (municipalities (length c.0)) (λ ms. groups (length c.0) >>= λ gs. quorum >>= λ q. Some (made_of b.0 c.0 ms gs q)) canton c.2 in
    let g = bind_some (groups (length c.0)) (λ gs. quorum >>= λ q. Some (made_of b.0 c.0 d.0 gs q)) canton d.2 in
    let k = bind_some quorum (λ q. Some (made_of b.0 c.0 d.0 g.0 q)) canton g.2 in
    subst (λ (x : Canton). Parts document x) {x = made_of b.0 c.0 d.0 g.0 k.0} (some_is (made_of b.0 c.0 d.0 g.0 k.0) canton k.2)
    (record { version = a.0; version_is = a.1; house = b.1; constituencies = c.1; municipalities = d.1; groups = g.1; quorum = k.1 })
  where
    made_of : ℕ → List Constituency → List Municipality → List Group → Option ℕ → Canton
    made_of h cs ms gs q = record { house = h; constituencies = cs; municipalities = ms; groups = gs; canton_quorum = q }
