use Rattle.tape.proofs.Reporting.{report_laws}
use Rattle.tape.proofs.laws.report_laws.Goals as goal

pub returns : goal.returns
returns c = report_laws
