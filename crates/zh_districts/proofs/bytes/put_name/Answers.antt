use Rattle.std.proofs.Common.{[], ◌∷◌, length, append_assoc}
use Rattle.zh_districts.proofs.bytes.put_name.Goals as goal

pub returns : goal.returns
returns c =
    rw (c.in_ok-extend_from_slice.ensures.items, c.in_ok-push.ensures.items, c.as_bytes.ensures.value) (append_assoc c.args.out.now.items (length c.args.name.now ∷ []) c.args.name.now)
