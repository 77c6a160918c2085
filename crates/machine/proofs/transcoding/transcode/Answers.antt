use Rattle.machine.proofs.transcoding.transcode.Goals as goal

pub returns : goal.returns
returns c = c.next_outcome.ensures c.args.writer.now c.args.reader.now c.in_ok-transcoder.ensures
