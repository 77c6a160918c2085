-- What a session that has ended finishes.
use Rattle.std.proofs.Common.{◌≡◌, ℕ, List, Some, sym, ap, ◌∙◌, subst, arith}
use Rattle.spec_avro.specs.Node.{Node}
use Rattle.spec_machine.specs.Program.{Program}
use Rattle.spec_machine.specs.Alone.{run_alone}
use Rattle.spec_sessions.specs.SessionEnding.{end_of}
use Rattle.spec_sessions.specs.Session.{Session}
use Rattle.spec_sessions.specs.Account.{Account}
use Rattle.session_pool_slots.specs.Account.{At}
use Rattle.spec_sessions.specs.declared.finished.Finished.{Finished}
use Rattle.session_pool.specs.Finishing.{EndsOf}
use Rattle.spec_sessions.specs.Finishing.{Finishes, IsEnd}
use Rattle.session_pool.specs.Pass.{LeadsToOutcomes}
use Rattle.spec_sessions.specs.Pass.{Pass}
use Rattle.session_pool.proofs.Ends.{end_is}

module _ (pass : Pass) (leads : LeadsToOutcomes pass.pair) (a : Account) (y : Session) (f : Finished) (fits : At a y) (runs : a.program ≡ pass.pair.program) (ends : EndsOf y f) where
  its_program : pass.pair.program ≡ y.program
  its_program = sym (fits.program ∙ runs)

  same_run : run_alone pass.pair.program a.sent a.closed f.rows ≡ run_alone y.program y.bytes y.closed y.count
  same_run = let b : a.sent ≡ y.bytes = sym fits.bytes in let c : a.closed ≡ y.closed = sym fits.closed in λ j. run_alone (its_program j) (b j) (c j) (ends.rows j)

  pub finishes : Finishes pass a f
  finishes =
      let W : List Node = pass.pair.writer.nodes in
      let R : List Node = pass.pair.reader.nodes in
      record {
        seen = (let b = fits.seen in let r = ends.rows in omega arith);
        state = ends.state;
        alone = same_run ∙ ends.kept.alone;
        end =
            subst (λ (b : List ℕ). IsEnd W R b (end_of f.end) ends.state) fits.bytes
            (end_is W R leads.each_end leads.early_end y ends.state (end_of f.end) (leads.code ∙ ap (λ (p : Program). Some p) its_program) ends.kept.alone ends.kept.unended ends.end);
      }
