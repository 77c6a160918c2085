-- Bytes that are UTF-8 become a string.
use Rattle.std.proofs.Common.{rules, ◌≡◌, Some, ap, ◌∙◌, slice_get, string_bytes}
use Rattle.std.proofs.lemmas.Str.{IsUtf8-string_bytes}
use Rattle.spec_avro.specs.Node.{TextNode}
use Rattle.avro_types.specs.Node.{node_of}
use Rattle.resolver.proofs.Texts.{text_made}
use Rattle.resolver.proofs.leaves.bytes_for.Goals as goal

pub returns-in-Ok : goal.returns-in-Ok
returns-in-Ok c =
    let at : slice_get c.args.reader.now c.args.reader_node ≡ Some TextNode = c.kind.ensures.kind ∙ ap (λ k. Some (node_of k)) c.in-Text.is in
    let same : string_bytes c.in-Ok.text ≡ c.args.bytes.items = search rules in
    text_made _ _ _ _ _ at (IsUtf8-string_bytes c.in-Ok.text) same
