-- The head that was found, or none.
use Rattle.std.proofs.Common.{◌≤◌, ◌∙◌, sym, rules, length}
use Rattle.upstream_answers.proofs.Heads.{head_taken, never_long, never_interim, never_bare, never_framed}
use Rattle.upstream_answers.proofs.head.accepted.Goals as goal
use Rattle.upstream_answers.proofs.head.accepted.Goals.{then-spans-gt-MOST_HEAD-via-then-spans-gt-MOST_HEAD, then-spans-gt-MOST_HEAD-via-else-spans-gt-MOST_HEAD+then-spans-lt200, then-spans-gt-MOST_HEAD-via-else-spans-gt-MOST_HEAD+else-spans-lt200+then-not-ends_lines_in_crlf}

pub returns-then-spans-gt-MOST_HEAD-clause-none : goal.returns-then-spans-gt-MOST_HEAD-clause-none
returns-then-spans-gt-MOST_HEAD-clause-none c =
    let h = c.requires.head in
    elim c.then-spans-gt-MOST_HEAD.branch [
      | then-spans-gt-MOST_HEAD-via-then-spans-gt-MOST_HEAD w ↦ never_long _ _ _ h.0 h.1 w.if-spans-gt-MOST_HEAD.true
      | then-spans-gt-MOST_HEAD-via-else-spans-gt-MOST_HEAD+then-spans-lt200 w ↦
          never_interim _ _ _ h.0 h.1 w.if-spans-lt200.true
      | then-spans-gt-MOST_HEAD-via-else-spans-gt-MOST_HEAD+else-spans-lt200+then-not-ends_lines_in_crlf w ↦
          never_bare _ _ _ h.0 h.1 (sym w.ends_lines_in_crlf.ensures ∙ w.if-not-ends_lines_in_crlf.true)
    ]

pub returns-in_default-clause-none : goal.returns-in_default-clause-none
returns-in_default-clause-none c =
    let h = c.requires.head in
    never_framed _ _ _ h.0 h.1 c.in_default.field-0 (search rules)

pub returns-clause-some : goal.returns-clause-some
returns-clause-some c =
    let h = c.requires.head in
    let within : c.args.spans.len ≤ length c.args.received.now = c.requires.within.section.len_fits in
    let short = c.if-spans-gt-MOST_HEAD.false in
    let last = c.if-spans-lt200.false in
    head_taken _ _ _ h.0 h.1 c.in-Ok.framing c.requires.fields within short last
    (sym c.ends_lines_in_crlf.ensures ∙ c.if-not-ends_lines_in_crlf.false) (search rules)
