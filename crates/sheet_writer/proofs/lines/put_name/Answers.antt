-- `put_name`: as many bytes as the name has letters. Assumes nothing.
use Rattle.sheet_writer.proofs.Lists.{name_puts}
use Rattle.sheet_writer.proofs.lines.put_name.Goals as goal

pub returns : goal.returns
returns c =
    name_puts c.args.name c.letters-n.result c.letters-n.ensures.0 c.put_bytes.ensures
