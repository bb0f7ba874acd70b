use Rattle.std.proofs.Common.{append_assoc}
use Rattle.zh_districts.proofs.bytes.put_group.Goals as goal

pub returns : goal.returns
returns c =
    rw (c.as_str.ensures.value, c.in_ok-extend_from_slice.ensures.items, c.to_be_bytes.ensures, c.mask.ensures, c.deref.ensures.value, append_assoc) at c.put_name.ensures
