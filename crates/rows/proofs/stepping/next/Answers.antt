use Rattle.std.proofs.Common.{rules}
use Rattle.rows.proofs.Meaning.{row_means_its_formula}
use Rattle.rows.proofs.stepping.next.Goals as goal

pub returns : goal.returns
returns c =
    record {
      next = search rules;
      means = λ events declared lawful. row_means_its_formula events c.args.row.now declared lawful;
    }
