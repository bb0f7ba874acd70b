use Rattle.std.proofs.Common.{◌≡◌, find, take, None}
use Rattle.std.specs.Str.{bytes_eq}
use Rattle.zh_arguments.specs.Commands.{commands, word_of}
use Rattle.zh_arguments.proofs.commands.command_named.Given as goal

-- none of the commands so far has this name
abbrev pub invariant-loop-name : goal.invariant-loop-name
invariant-loop-name l = find (λ name. bytes_eq l.text (word_of name)) (take l.name-index commands) ≡ None
