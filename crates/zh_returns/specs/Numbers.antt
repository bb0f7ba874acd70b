-- The numbers of the desks.
use Rattle.std.specs.Prelude.{ℕ, ◌≤◌}

-- desks have the numbers 1 to 8
abbrev pub IsDesk : ℕ → Type 0
IsDesk number = (1 ≤ number) × (number ≤ 8)
