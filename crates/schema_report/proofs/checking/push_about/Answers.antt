use Rattle.schema_report.proofs.Appending.{one_more}
use Rattle.schema_report.proofs.checking.push_about.Goals as goal

pub returns-in_ok-push_str-in-NoDefault : goal.returns-in_ok-push_str-in-NoDefault
returns-in_ok-push_str-in-NoDefault c =
    rw c.in-NoDefault.is (one_more c.push_lacking.result _ _ _ _ _ c.in_ok-push_str-in-NoDefault.ensures.bytes c.push_lacking.ensures)

pub returns-in_ok-push_str-in-NoSymbol : goal.returns-in_ok-push_str-in-NoSymbol
returns-in_ok-push_str-in-NoSymbol c =
    rw c.in-NoSymbol.is (one_more c.push_missing.result _ _ _ _ _ c.in_ok-push_str-in-NoSymbol.ensures.bytes c.push_missing.ensures)
