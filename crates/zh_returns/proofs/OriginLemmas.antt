-- Where entries come from, and which origins a format can name.
use Rattle.std.proofs.Common.{◌≡◌, List, ℕ, get_or, ap, arith}
use Rattle.zh_returns.specs.declared.command.Command.{Command}
use Rattle.zh_returns.specs.declared.command.Command.TheVariants as commands
use Rattle.zh_returns.specs.declared.command.Format.{Format}
use Rattle.zh_returns.specs.declared.command.Format.TheVariants.{One, Two}
use Rattle.zh_returns.specs.Spelling.{HasNumbers}
use Rattle.zh_returns.specs.declared.entry.Origin.{Origin}
use Rattle.zh_returns.specs.Origin.{IsOriginOf, no_desk, origin_of, origin_spelling}

-- two origins with the same bytes are the same
pub origin_once : (a b : Origin) → origin_spelling a ≡ origin_spelling b → a ≡ b
origin_once a b same =
    let desk = ap (λ (bytes : List ℕ). get_or bytes 0 0) same in
    λ i. record { desk = desk i }

-- each format can say that no desk is known
pub no_desk_said : (format : Format) → IsOriginOf format no_desk
no_desk_said One = record { desk = omega arith }
no_desk_said Two = record { desk = omega arith }

-- format Two can name every origin that some format can
pub origin_within : (format : Format) (origin : Origin) → IsOriginOf format origin → IsOriginOf Two origin
origin_within One origin is = record { desk = let none = is.desk in omega arith }
origin_within Two origin is = is

-- format Two can name the origin of a command
pub origin_named : (command : Command) → HasNumbers command → IsOriginOf Two (origin_of command)
origin_named (commands.Return desk row) numbers = record { desk = numbers.0 }
origin_named (commands.Withdraw desk municipality list number) numbers = record { desk = numbers.0 }
origin_named (commands.Close municipality) numbers = no_desk_said Two
origin_named (commands.Reopen municipality) numbers = no_desk_said Two
origin_named (commands.Batch desk rows) numbers = record { desk = numbers.0 }
