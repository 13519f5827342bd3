use Rattle.dm_alter.proofs.refusals.refusal.Goals as goal

pub returns-in-Add : goal.returns-in-Add
returns-in-Add g c = rw c.in-Add.is (c.add_refusal.ensures (g.R.DefaultReading.reads c.args.reading.now))

pub returns-in-Drop : goal.returns-in-Drop
returns-in-Drop g c = rw c.in-Drop.is (c.drop_refusal.ensures (g.R.DefaultReading.reads c.args.reading.now))

pub returns-in-Modify : goal.returns-in-Modify
returns-in-Modify g c = rw c.in-Modify.is (c.modify_refusal.ensures (g.R.DefaultReading.reads c.args.reading.now))

pub returns-in-AddUnique : goal.returns-in-AddUnique
returns-in-AddUnique g c = rw c.in-AddUnique.is (c.key_refusal.ensures (g.R.DefaultReading.reads c.args.reading.now) c.args.before.now)

pub returns-in-RenameKey : goal.returns-in-RenameKey
returns-in-RenameKey g c = rw c.in-RenameKey.is (c.rename_refusal.ensures (g.R.DefaultReading.reads c.args.reading.now) c.args.before.now)
