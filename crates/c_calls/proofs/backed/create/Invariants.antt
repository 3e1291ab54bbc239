use Rattle.c_calls.proofs.backed.create.Given as goal

abbrev pub ghost-any : goal.ghost-any
ghost-any g a = g.content
