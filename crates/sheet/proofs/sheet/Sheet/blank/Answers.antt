use Rattle.std.proofs.Common.{rules}
use Rattle.sheet.proofs.sheet.Sheet.blank.Goals as goal

pub returns : goal.returns
returns c =
    record {
      idle = c.in_ok-idle.field-0;
      is_idle = c.in_ok-idle.ensures;
      events = search rules;
      rows = search rules;
      keep = search rules;
    }
