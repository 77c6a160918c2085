-- The parts of the program of all statements.
use Rattle.std.proofs.Common.{◌≡◌, ℕ, suc, ◌+◌, ◌<◌, ◌≤◌, drop, get_or, Bool, true, false, List, [], ◌∷◌, length, map, Result, Ok, Err, refl, sym, ap, subst, ◌∙◌, arith}
use Rattle.std.specs.Prelude.{if◌then◌else◌}
use Rattle.std.specs.List.{AllByRecursion}
use Rattle.std.specs.Global.{Vec}
use Rattle.std.specs.Str.{bytes_eq}
use Rattle.spec_avro.specs.Node.{Node}
use Rattle.spec_machine.specs.declared.entry.Entry.{Entry}
use Rattle.spec_machine.specs.declared.instr.Instr.{Instr}
use Rattle.spec_machine.specs.declared.limits.TheConstants.{MOST_CONSTANT_BYTES, MOST_INSTRS, MOST_TABLES}
use Rattle.spec_machine.specs.Lengths.{total_length}
use Rattle.spec_machine.specs.Program.{Program}
use Rattle.spec_machine.specs.Range.{IsProgram}
use Rattle.spec_avro.specs.declared.limits.TheConstants.{MOST_OUTPUT}
use Rattle.spec_avro.specs.declared.mismatch.Mismatch.{Mismatch}
use Rattle.spec_machine.specs.Code.{are_whole, is_lost}
use Rattle.spec_machine.specs.Statements.{Statement, Section}
use Rattle.spec_machine.specs.Numbering.{code_from, constants_in, constants_of, entry_of, has, jumps_from, maps_of, misses_in, named_in, numbered}
use Rattle.program_definition.proofs.Numbers.{added, bytes_is, bytes_refl}
use Rattle.program_definition.proofs.Ranges.{code_length}
use Rattle.program_compiler.specs.declared.error.CompileError.{CompileError}
use Rattle.program_compiler.specs.declared.error.CompileError.TheVariants.{ProgramTooLarge, NoMemory}
use Rattle.program_ir.specs.declared.statements.Statement as rust
use Rattle.program_ir.specs.Statements.{statement_of, statements_in}
use Rattle.program_compiler.specs.Parts.{AreWide, Assembles, FitNowhere, IsLong, LinksAll, LinksTables}
use Rattle.program_compiler.proofs.Jumps.{statements_left}

module _ (W R : List Node) (statements : List rust.Statement) (i : ℕ) (statement : rust.Statement) (lost : Bool) (lt : i < length statements) (is : statement ≡ get_or statements i statement) (told : lost ≡ is_lost (statement_of W R statement)) where
  whole_here : are_whole (statements_in W R (drop i statements)) ≡ (if lost then false else are_whole (statements_in W R (drop (i + 1) statements)))
  whole_here = ap are_whole (statements_left W R statements i statement lt is) ∙ ap (λ b. if b then false else are_whole (statements_in W R (drop (i + 1) statements))) (sym told)

  pub statement_is_lost : lost ≡ true → are_whole (statements_in W R (drop i statements)) ≡ are_whole (statements_in W R statements) → false ≡ are_whole (statements_in W R statements)
  statement_is_lost e so_far = sym (whole_here ∙ ap (λ b. if b then false else are_whole (statements_in W R (drop (i + 1) statements))) e) ∙ so_far

  pub statement_is_whole : lost ≡ false → are_whole (statements_in W R (drop i statements)) ≡ are_whole (statements_in W R statements) → are_whole (statements_in W R (drop (i + 1) statements)) ≡ are_whole (statements_in W R statements)
  statement_is_whole e so_far = sym (whole_here ∙ ap (λ b. if b then false else are_whole (statements_in W R (drop (i + 1) statements))) e) ∙ so_far

-- ---- a constant is no longer than all are together

there_is_short : (c : List ℕ) (xs : List (List ℕ)) → has bytes_eq c xs ≡ true → length c ≤ total_length xs
there_is_short c [] h = absurd (let no : ⊥ = cc in no)
there_is_short c (x ∷ xs) h = go (bytes_eq c x) refl (there_is_short c xs) h
  where
    go : (b : Bool) → bytes_eq c x ≡ b → (has bytes_eq c xs ≡ true → length c ≤ total_length xs) → (if b then true else has bytes_eq c xs) ≡ true → length c ≤ length x + total_length xs
    go true e ih h = let same : length c ≡ length x = ap length (bytes_is c x e) in omega (arith, same)
    go false e ih h = let le = ih h in omega (arith, le)

all_short : (most : ℕ) (cs xs : List (List ℕ)) → total_length xs ≤ most → AllByRecursion (λ c. has bytes_eq c xs ≡ true) cs → AllByRecursion (λ c. length c ≤ most) cs
all_short most [] xs le h = tt
all_short most (c ∷ cs) xs le h = let short = there_is_short c xs h.0 in (omega (arith, le, short), all_short most cs xs le h.1)

pub statements_long : (W R : List Node) (ls : List rust.Statement) → length (statements_in W R ls) ≡ length ls
statements_long W R [] = refl
statements_long W R (l ∷ ls) = ap suc (statements_long W R ls)

-- ---- where a limit is passed, the statements have no program

module _ (starts : Section → ℕ) (ls : List Statement) where
  constants_short : IsProgram (numbered starts ls) → AllByRecursion (λ c. length c ≤ MOST_OUTPUT) (named_in constants_of ls)
  constants_short prog =
      let bytes : total_length (constants_in ls) ≤ MOST_CONSTANT_BYTES = prog.within.bytes in
      all_short MOST_OUTPUT (named_in constants_of ls) (constants_in ls) (omega (arith, bytes)) (added bytes_eq bytes_refl (named_in constants_of ls) []).1

  pub none_long : IsLong (named_in constants_of ls) → IsProgram (numbered starts ls) → ⊥
  none_long long prog = long (constants_short prog)

  pub none_wide : AreWide (jumps_from 0 ls) → IsProgram (numbered starts ls) → ⊥
  none_wide wide prog =
      let few : length (code_from starts (constants_in ls) (misses_in ls) 0 0 0 ls) ≤ MOST_INSTRS = prog.within.code in
      wide (length (code_from starts (constants_in ls) (misses_in ls) 0 0 0 ls)) (omega (arith, few)) prog.addresses

  pub none_fits : FitNowhere (named_in constants_of ls) (code_from starts (constants_in ls) (misses_in ls) 0 0 0 ls) → IsProgram (numbered starts ls) → ⊥
  none_fits nowhere prog = nowhere (numbered starts ls) prog.within prog.instrs (constants_short prog)

  pub none_missing : (n : ℕ) → n ≡ length (misses_in ls) → MOST_TABLES < n → IsProgram (numbered starts ls) → ⊥
  none_missing n e many prog = let few : length (misses_in ls) ≤ MOST_TABLES = prog.within.misses in omega (arith, few, many, e)

  pub none_many : MOST_INSTRS < length ls → IsProgram (numbered starts ls) → ⊥
  none_many many prog =
      let few : length (code_from starts (constants_in ls) (misses_in ls) 0 0 0 ls) ≤ MOST_INSTRS = prog.within.code in
      let long = code_length starts (constants_in ls) (misses_in ls) 0 0 0 ls in
      omega (arith, few, long, many)

five : {code other_code : List Instr} {cs other_cs : List (List ℕ)} {maps other_maps : List (List Entry)} {jumps other_jumps : List (List ℕ)} {ms other_ms : List Mismatch}
    → code ≡ other_code → cs ≡ other_cs → maps ≡ other_maps → jumps ≡ other_jumps → ms ≡ other_ms
    → ◌≡◌ {A = Program} (record { code = code; constants = cs; maps = maps; jumps = jumps; misses = ms }) (record { code = other_code; constants = other_cs; maps = other_maps; jumps = other_jumps; misses = other_ms })
five {code} {other_code} {cs} {other_cs} {maps} {other_maps} {jumps} {other_jumps} {ms} {other_ms} a b c d e =
    ap (λ x. record { code = x; constants = cs; maps = maps; jumps = jumps; misses = ms }) a
    ∙ ap (λ x. record { code = other_code; constants = x; maps = maps; jumps = jumps; misses = ms }) b
    ∙ ap (λ x. record { code = other_code; constants = other_cs; maps = x; jumps = jumps; misses = ms }) c
    ∙ ap (λ x. record { code = other_code; constants = other_cs; maps = other_maps; jumps = x; misses = ms }) d
    ∙ ap (λ x. record { code = other_code; constants = other_cs; maps = other_maps; jumps = other_jumps; misses = x }) e

pub different : false ≡ true → ⊥
different h = let wrong : ⊥ = cc in wrong

-- ---- of the statements that were gone over, which are all statements of the sections

module _ (starts : Section → ℕ) (W R : List Node) (statements all : List rust.Statement) (same : statements ≡ all) where
  pub whole_of : (b : Bool) → b ≡ are_whole (statements_in W R statements) → b ≡ true → are_whole (statements_in W R all) ≡ true
  whole_of b told e = ap (λ l. are_whole (statements_in W R l)) (sym same) ∙ sym told ∙ e

  pub not_whole : (b : Bool) → b ≡ are_whole (statements_in W R statements) → b ≡ false → are_whole (statements_in W R all) ≡ true → ⊥
  not_whole b told e whole = different (sym e ∙ told ∙ ap (λ l. are_whole (statements_in W R l)) same ∙ whole)

  pub many_statements : MOST_INSTRS < length statements → IsProgram (numbered starts (statements_in W R all)) → ⊥
  many_statements many prog =
      let e : length statements ≡ length all = ap length same in
      let long = statements_long W R all in
      none_many starts (statements_in W R all) (omega (arith, many, e, long)) prog

  pub long_statements : IsLong (named_in constants_of (statements_in W R statements)) → IsProgram (numbered starts (statements_in W R all)) → ⊥
  long_statements long prog = none_long starts (statements_in W R all) (subst (λ l. IsLong (named_in constants_of (statements_in W R l))) same long) prog

  pub wide_statements : AreWide (jumps_from 0 (statements_in W R statements)) → IsProgram (numbered starts (statements_in W R all)) → ⊥
  wide_statements wide prog = none_wide starts (statements_in W R all) (subst (λ l. AreWide (jumps_from 0 (statements_in W R l))) same wide) prog

  module _ (cs : List (List ℕ)) (ms : List Mismatch) (constants : cs ≡ constants_in (statements_in W R statements)) (misses : ms ≡ misses_in (statements_in W R statements)) where
    all_constants : cs ≡ constants_in (statements_in W R all)
    all_constants = constants ∙ ap (λ l. constants_in (statements_in W R l)) same

    all_misses : ms ≡ misses_in (statements_in W R all)
    all_misses = misses ∙ ap (λ l. misses_in (statements_in W R l)) same

    same_code : code_from starts cs ms 0 0 0 (statements_in W R all) ≡ code_from starts (constants_in (statements_in W R all)) (misses_in (statements_in W R all)) 0 0 0 (statements_in W R all)
    same_code = ap (λ x. code_from starts x ms 0 0 0 (statements_in W R all)) all_constants ∙ ap (λ y. code_from starts (constants_in (statements_in W R all)) y 0 0 0 (statements_in W R all)) all_misses

    pub none_assembled : (e : CompileError) (result : Result (Vec Instr) CompileError) → result ≡ Err e → LinksAll (statements_in W R all) (code_from starts cs ms 0 0 0 (statements_in W R all)) result → LinksTables (statements_in W R all) (numbered starts (statements_in W R all)) (Err e)
    none_assembled ProgramTooLarge result is h =
        let here : FitNowhere (named_in constants_of (statements_in W R all)) (code_from starts cs ms 0 0 0 (statements_in W R all)) = subst (LinksAll (statements_in W R all) (code_from starts cs ms 0 0 0 (statements_in W R all))) is h in
        λ whole prog. none_fits starts (statements_in W R all) (subst (FitNowhere (named_in constants_of (statements_in W R all))) same_code here) prog
    none_assembled NoMemory result is h = tt

    pub code_is : (code : Vec Instr) (result : Result (Vec Instr) CompileError) → result ≡ Ok code → LinksAll (statements_in W R all) (code_from starts cs ms 0 0 0 (statements_in W R all)) result
        → code.items ≡ code_from starts (constants_in (statements_in W R all)) (misses_in (statements_in W R all)) 0 0 0 (statements_in W R all)
    code_is code result is h =
        let here : code.items ≡ code_from starts cs ms 0 0 0 (statements_in W R all) = subst (LinksAll (statements_in W R all) (code_from starts cs ms 0 0 0 (statements_in W R all))) is h in
        here ∙ same_code

    pub maps_are : (maps : List (List Entry)) → maps ≡ map (map (entry_of ms)) (named_in maps_of (statements_in W R statements)) → maps ≡ map (map (entry_of (misses_in (statements_in W R all)))) (named_in maps_of (statements_in W R all))
    maps_are maps em = em ∙ ap (λ y. map (map (entry_of y)) (named_in maps_of (statements_in W R statements))) all_misses ∙ ap (λ l. map (map (entry_of (misses_in (statements_in W R all)))) (named_in maps_of (statements_in W R l))) same

  pub jumps_are : (jumps : List (List ℕ)) → jumps ≡ jumps_from 0 (statements_in W R statements) → jumps ≡ jumps_from 0 (statements_in W R all)
  jumps_are jumps ej = ej ∙ ap (λ l. jumps_from 0 (statements_in W R l)) same

  pub misses_are : (ms : List Mismatch) → ms ≡ misses_in (statements_in W R statements) → ms ≡ misses_in (statements_in W R all)
  misses_are ms are = are ∙ ap (λ l. misses_in (statements_in W R l)) same

  pub many_misses : (ms : List Mismatch) (n : ℕ) → n ≡ length ms → ms ≡ misses_in (statements_in W R all) → MOST_TABLES < n → IsProgram (numbered starts (statements_in W R all)) → ⊥
  many_misses ms n len are many prog = none_missing starts (statements_in W R all) n (len ∙ ap length are) many prog

-- what is linked, with the constants and the misses, is the program
pub linked_parts : (statements : List Statement) (P : Program) (code : Vec Instr) (maps : List (List Entry)) (jumps constants : List (List ℕ)) (misses : List Mismatch) (result : Result (Vec Instr × List (List Entry) × List (List ℕ)) CompileError)
    → result ≡ Ok (code, maps, jumps) → LinksTables statements P result → constants ≡ P.constants → misses ≡ P.misses
    → ◌≡◌ {A = Program} (record { code = code.items; constants = constants; maps = maps; jumps = jumps; misses = misses }) P
linked_parts statements P code maps jumps constants misses result is h ec em =
    let here = subst (LinksTables statements P) is h in
    five here.0 ec here.1 here.2 em

pub none_linked : (statements : List Statement) (P : Program) (e : CompileError) (result : Result (Vec Instr × List (List Entry) × List (List ℕ)) CompileError) → result ≡ Err e → LinksTables statements P result → Assembles statements P (Err e)
none_linked statements P ProgramTooLarge result is h = subst (LinksTables statements P) is h
none_linked statements P NoMemory result is h = tt
