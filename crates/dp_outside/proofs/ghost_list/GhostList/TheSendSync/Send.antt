-- It owns nothing, so it may go to another thread.
use denote.RattleType.{RattleType}
use denote.Param.Send.{IsSend, owning_send, sendable}
use Rattle.dp_outside.specs.contracts.ghost_list.GhostList.{the_row, the_type}

pub send : (A B C : RattleType) → IsSend A → IsSend B → IsSend C → IsSend (the_row A B C)
send A B C a b c = owning_send (the_type A B C) (search sendable, tt) (λ d. tt) (λ k x w. tt)
