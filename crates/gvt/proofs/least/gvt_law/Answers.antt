use Rattle.gvt.proofs.Lowest.{horizon-gvt}
use Rattle.gvt.proofs.least.gvt_law.Goals as goal

pub returns : goal.returns
returns g c f time w floors mail count boxes until floors_are mail_is = horizon-gvt f time w floors mail until f.processes count boxes floors_are mail_is
