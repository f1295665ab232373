use Rattle.odb_save.proofs.Loads.{cap_of, cause_of, complete, saved_of}
use Rattle.odb_save.proofs.loading.load.Goals as goal

pub returns-clause-saved : goal.returns-clause-saved
returns-clause-saved c = saved_of c.args.cap c.args.bytes.now c.load_saved.result c.load_saved.ensures

pub returns-clause-cap : goal.returns-clause-cap
returns-clause-cap c = cap_of c.args.cap c.args.bytes.now c.load_saved.result c.load_saved.ensures

pub returns-clause-cause : goal.returns-clause-cause
returns-clause-cause c = cause_of c.args.cap c.args.bytes.now c.load_saved.result c.load_saved.ensures

pub returns-clause-complete : goal.returns-clause-complete
returns-clause-complete c = complete c.args.cap c.args.bytes.now c.load_saved.result c.load_saved.ensures
