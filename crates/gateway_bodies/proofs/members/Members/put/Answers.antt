-- One key is put, and the others stay.
use Rattle.std.proofs.Common.{codes, refl, sym}
use Rattle.gateway_bodies.proofs.Keeping.{key_put, key_stays, member_stays}
use Rattle.gateway_bodies.proofs.members.Members.put.Goals as goal

pub returns-in-schema : goal.returns-in-schema
returns-in-schema c = λ all d are e.
    let k = c.args.key.now in
    let is = c.in-schema.is in record {
      schema = key_put k (codes "schema") all d c.args.value is e;
      schema_type = key_stays k (codes "schema") (codes "schemaType") all d c.args.self.now.schema_type is refl refl are.schema_type;
      references = key_stays k (codes "schema") (codes "references") all d c.args.self.now.references is refl refl are.references;
      compatibility = key_stays k (codes "schema") (codes "compatibility") all d c.args.self.now.compatibility is refl refl are.compatibility;
    }

pub returns-in-schemaType : goal.returns-in-schemaType
returns-in-schemaType c = λ all d are e.
    let k = c.args.key.now in
    let is = c.in-schemaType.is in record {
      schema = key_stays k (codes "schemaType") (codes "schema") all d c.args.self.now.schema is refl refl are.schema;
      schema_type = key_put k (codes "schemaType") all d c.args.value is e;
      references = key_stays k (codes "schemaType") (codes "references") all d c.args.self.now.references is refl refl are.references;
      compatibility = key_stays k (codes "schemaType") (codes "compatibility") all d c.args.self.now.compatibility is refl refl are.compatibility;
    }

pub returns-in-references : goal.returns-in-references
returns-in-references c = λ all d are e.
    let k = c.args.key.now in
    let is = c.in-references.is in record {
      schema = key_stays k (codes "references") (codes "schema") all d c.args.self.now.schema is refl refl are.schema;
      schema_type = key_stays k (codes "references") (codes "schemaType") all d c.args.self.now.schema_type is refl refl are.schema_type;
      references = key_put k (codes "references") all d c.args.value is e;
      compatibility = key_stays k (codes "references") (codes "compatibility") all d c.args.self.now.compatibility is refl refl are.compatibility;
    }

pub returns-in-compatibility : goal.returns-in-compatibility
returns-in-compatibility c = λ all d are e.
    let k = c.args.key.now in
    let is = c.in-compatibility.is in record {
      schema = key_stays k (codes "compatibility") (codes "schema") all d c.args.self.now.schema is refl refl are.schema;
      schema_type = key_stays k (codes "compatibility") (codes "schemaType") all d c.args.self.now.schema_type is refl refl are.schema_type;
      references = key_stays k (codes "compatibility") (codes "references") all d c.args.self.now.references is refl refl are.references;
      compatibility = key_put k (codes "compatibility") all d c.args.value is e;
    }

pub returns-in_default : goal.returns-in_default
returns-in_default c = λ all d are e.
    let k = c.args.key.now in record {
      schema = member_stays (codes "schema") k all d c.args.self.now.schema (λ h. c.in_default.not-schema (sym h)) are.schema;
      schema_type = member_stays (codes "schemaType") k all d c.args.self.now.schema_type (λ h. c.in_default.not-schemaType (sym h)) are.schema_type;
      references = member_stays (codes "references") k all d c.args.self.now.references (λ h. c.in_default.not-references (sym h)) are.references;
      compatibility = member_stays (codes "compatibility") k all d c.args.self.now.compatibility (λ h. c.in_default.not-compatibility (sym h)) are.compatibility;
    }
