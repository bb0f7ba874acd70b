use Rattle.std.proofs.Common.{◌≡◌, true}
use Rattle.std.specs.Str.{is_utf8}
use Rattle.std.proofs.lemmas.Str.{is_utf8-from_IsUtf8}
use Rattle.zh_setups.proofs.table.is_name.Goals as goal

pub returns : goal.returns
returns c =
    let text : is_utf8 c.args.text.now ≡ true = is_utf8-from_IsUtf8 c.args.text.now c.utf8.text in
    rw (text, ← c.as_bytes.ensures.value) c.is_plain.ensures
