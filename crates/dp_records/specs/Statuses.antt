-- The statuses with which sessions end.
use Rattle.std.specs.Prelude.{ℕ, ◌==◌, nat_le, Bool, ◌||◌}
use Rattle.dp_state.specs.Statuses.{killed_status, unfinished_status}

-- the greatest status of a PHP program that came to its end, or exited
abbrev pub exit_limit : ℕ
exit_limit = 199

-- bytes stood in no command's place
abbrev pub bad_status : ℕ
bad_status = 207

-- the statuses of sessions
abbrev pub is_status : ℕ → Bool
is_status number = nat_le number exit_limit || number == bad_status || number == killed_status
    || number == unfinished_status
