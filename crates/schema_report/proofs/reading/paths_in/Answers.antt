use Rattle.schema_report.proofs.reading.paths_in.Goals as goal

pub paths_of-requires : goal.paths_of-requires
paths_of-requires c =
    let schema = (c.parsed_schema_is_declared.ensures.nodes c.args.text.now c.args.nodes.now).0 c.requires.schema in
    c.read_value_is_declared.ensures c.args.text.now c.args.nodes.now _ schema.reads c.requires.value
