use Rattle.simplify.proofs.GoneClauses.{gone-removable}
use Rattle.simplify.proofs.room.Room.replace.Goals as goal

pub drop_clauses-requires : goal.drop_clauses-requires
drop_clauses-requires c = rw (c.in_ok-add_resolvents.ensures.entries, c.deref.ensures.value, c.requires.listed.gone) (gone-removable c.args.variable c.args.database.now.entries c.args.self.now.resolvents)
