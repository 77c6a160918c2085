-- What is left to look at decides.
use Rattle.std.proofs.Common.{◌≡◌, drop}
use Rattle.http1.specs.Text.{lf_follows_cr}
use Rattle.upstream_answers.proofs.lines.ends_lines_in_crlf.Given as goal

abbrev pub invariant-loop-byte : goal.invariant-loop-byte
invariant-loop-byte l = lf_follows_cr 0 l.bytes ≡ lf_follows_cr l.before (drop l.byte-index l.bytes)
