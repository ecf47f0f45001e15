use Rattle.derived.proofs.operation_name.name_by_kind.Goals as goal

pub returns-in-Server : goal.returns-in-Server
returns-in-Server g c = rw (← c.in-Server.ensures, ← c.if-is_http-2.ensures) c.compose-in-Server.ensures
