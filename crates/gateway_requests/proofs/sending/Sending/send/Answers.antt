-- The bytes of one piece are the next bytes of both.
use Rattle.std.proofs.Common.{◌≡◌, ◌≤◌, ◌-◌, ℕ, List, length, take, drop, ap, sym, ◌∙◌, arith, rules}
use Rattle.std.specs.Io.KnownBytes.{Appends}
use Rattle.gateway_requests.proofs.Sent.{in_rest}
use Rattle.gateway_requests.proofs.sending.Sending.send.Goals as goal

pub returns-clause-written : goal.returns-clause-written
returns-clause-written g c =
    let front = c.self.inside.bytes.front.items in
    let rest = c.self.inside.bytes.rest.items in
    let late : length front ≤ c.self.inside.sent = search (rules, arith) in
    let same : drop c.args.self.now.sent c.args.self.now.bytes ≡ drop (c.self.inside.sent - length front) rest =
    ap (λ s. drop s.sent s.bytes) (sym c.self.view_is) ∙ in_rest c.self.inside.sent front rest late in
    let long : c.len-front.result ≡ length front = search rules in
    let next : drop (c.self.inside.sent - c.len-front.result) c.deref-2.result.now ≡ drop c.args.self.now.sent c.args.self.now.bytes =
    ap (λ z. drop (c.self.inside.sent - c.len-front.result) z) c.deref-2.ensures.value
    ∙ ap (λ (n : ℕ). drop (c.self.inside.sent - n) rest) long ∙ sym same in
    let written : Appends (g.W.Write.contents c.args.writer.now) (g.W.Write.contents c.write_more-2.new.writer)
    (take c.in_ok-count-2.count (drop (c.self.inside.sent - c.len-front.result) c.deref-2.result.now)) = c.in_ok-count-2.ensures.written in
    rw next at written
