-- The way from an id to what is held for it. All of this is this project's own.
use Rattle.std.specs.Prelude.{ℕ, Option, refl}
use Rattle.std.specs.Coded.{Coded, code_by, coded_ℕ, coded_list, coded_option, coded×}
use Rattle.spec_registry.specs.Path.{RowCell, Path}

-- the code of a cell of rows
abbrev pub coded_row_cell : Coded RowCell
coded_row_cell = coded× coded_ℕ (coded_option (coded_list coded_ℕ))

-- the code of a path, from that of a value
abbrev pub path_code : {T : Type 0} → Coded T → Coded (Path T)
path_code {T} c = code_by (ℕ × (RowCell × (RowCell × (RowCell × (ℕ × Option T)))))
    (coded× coded_ℕ (coded× coded_row_cell (coded× coded_row_cell
    (coded× coded_row_cell (coded× coded_ℕ (coded_option c))))))
    (λ p. (p.id, (p.second, (p.third, (p.fourth, p.last)))))
    (λ p. record { id = p.0; second = p.1.0; third = p.1.1.0; fourth = p.1.1.1.0; last = p.1.1.1.1 }) (λ _. refl)
