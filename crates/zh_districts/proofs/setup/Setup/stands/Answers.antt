use Rattle.std.proofs.Common.{◌≡◌, ◌<◌, ◌-◌, length, map, arith, rules, refl, ap, true}
use Rattle.std.specs.Prelude.{slice_get, nat_le, Some}
use Rattle.std.proofs.lemmas.List.{length-map}
use Rattle.std.proofs.lemmas.Option.{slice_get_read}
use Rattle.zh_districts.specs.Canton.{Canton}
use Rattle.zh_districts.specs.Parts.{group, constituency}
use Rattle.zh_districts.proofs.ImageLemmas.{columns_of, image_is}
use Rattle.zh_districts.proofs.setup.Setup.stands.Goals as goal

pub index-requires-2 : goal.index-requires-2
index-requires-2 c =
    let s = c.self.inside in
    let view = c.self.view_is in
    let within : c.args.group - 1 < length s.groups.items = omega (arith, length-map s.groups.items group, ap (λ (v : Canton). length v.groups) view) in
    omega (
      arith,
      columns_of s c.self.invariant _ c.index.result.now within c.index.ensures,
      c.index.result.now.stands.ok.0,
      length-map s.constituencies.items constituency,
      ap (λ (v : Canton). length v.constituencies) view,
    )

pub returns : goal.returns
returns c =
    let s = c.self.inside in
    let view = c.self.view_is in
    let within : c.args.group - 1 < length s.groups.items = omega (arith, length-map s.groups.items group, ap (λ (v : Canton). length v.groups) view) in
    let found : slice_get (map group s.groups.items) (c.args.group - 1) ≡ Some (group c.index.result.now) = image_is group s.groups.items _ c.index.result.now within c.index.ensures in
    let from_one : nat_le 1 c.args.group ≡ true = search rules in
    let places = c.index.result.now.stands.items in
    let in_place : c.args.constituency - 1 < length places = omega (
      arith,
      columns_of s c.self.invariant _ c.index.result.now within c.index.ensures,
      length-map s.constituencies.items constituency,
      ap (λ (v : Canton). length v.constituencies) view,
    ) in
    let read : slice_get places (c.args.constituency - 1) ≡ Some c.index-2.result.now = slice_get_read places (length places) _ c.index-2.result.now refl in_place c.index-2.ensures in
    rw (← view) (rw found (rw (from_one, read) refl))
