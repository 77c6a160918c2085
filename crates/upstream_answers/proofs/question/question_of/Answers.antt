-- The parts in a row.
use Rattle.std.proofs.Common.{◌≡◌, ℕ, List, ◌++◌, append_assoc, ◌∙◌, ap, codes, string_bytes}
use Rattle.spec_service.specs.UpstreamQuestion.{authorization_text, request_line_text}
use Rattle.upstream_answers.proofs.question.question_of.Goals as goal

-- eight texts, grouped from either end
in_a_row : (a b c d e f g h : List ℕ)
    → a ++ (b ++ (c ++ (d ++ (e ++ (f ++ (g ++ h)))))) ≡ a ++ b ++ c ++ d ++ e ++ f ++ g ++ h
in_a_row a b c d e f g h = simp append_assoc

pub returns : goal.returns
returns c =
    let line = c.as_str-line.ensures.value ∙ c.in_ok-line.ensures
    ∙ ap (λ p. request_line_text p c.args.id) c.as_str.ensures.value in
    let host = c.as_str-host.ensures.value in
    let authorization = c.as_str-authorization.ensures.value ∙ c.in_ok-authorization.ensures
    ∙ ap authorization_text c.as_str-2.ensures.value in
    c.in_ok-format.ensures.ok
    ∙ rw (line, host, authorization)
    (in_a_row (request_line_text (string_bytes c.args.place.now.prefix) c.args.id) (codes "host: ")
    (string_bytes c.args.place.now.host) (codes "\r\naccept: ") (codes "application/vnd.schemaregistry.v1+json")
    (codes "\r\nconnection: close\r\n") (authorization_text (string_bytes c.args.place.now.credentials))
    (codes "\r\n"))
