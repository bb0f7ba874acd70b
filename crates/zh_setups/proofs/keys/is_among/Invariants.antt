use Rattle.std.proofs.Common.{◌≡◌, map, drop}
use Rattle.std.specs.List.{list_any}
use Rattle.std.specs.Str.{bytes_eq}
use Rattle.zh_setups.proofs.keys.is_among.Given as goal

abbrev pub invariant-loop-known : goal.invariant-loop-known
invariant-loop-known l =
    list_any (λ known. bytes_eq known l.key) (map (λ k. k.now) (drop l.known-index l.keys)) ≡ list_any (λ known. bytes_eq known l.key) (map (λ k. k.now) l.keys)
