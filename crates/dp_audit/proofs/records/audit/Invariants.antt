-- The ledger of the session's steps is the one that the blank stands for.
use Rattle.dp_audit.proofs.records.audit.Given as goal

abbrev pub ghosts-audit_with : goal.ghosts-audit_with
ghosts-audit_with g a = record { name = a.blank.name; parts = a.blank.parts }
