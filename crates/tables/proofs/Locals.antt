-- The arrays among the locals of a function's code, which its proof lists (`arrays-are`). No promise rests on the list: it guards the form of a body, of whose arrays its contract says nothing. Assumes nothing.
use mathlib.Core.List.{List, [], ◌∷◌, ◌++◌, map}
use Prim.Native.Nat.{ℕ}
use mir.Syntax.{Ty, ty_int, ty_bool, ty_float, ty_ptr, ty_ref, ty_array, ty_unit, ty_param, ty_const, ty_array_p, ty_struct, ty_enum, ty_named, Tys, tnil, tcons, Tyss, ttnil, ttcons, Home, value_local, memory_slot, Local, local, Fn}
use prog.Memory.{size}

-- an array: whether it lies in memory or passes by value, how many places it has, how many bytes a place takes
abbrev pub Array : Type 0
Array = Home × ℕ × ℕ

-- in memory, where single places are read and written, and from where it is lent
abbrev pub memory : ℕ → ℕ → Array
memory places bytes = (memory_slot, places, bytes)

-- by value: passed, returned or copied whole, and not lent
abbrev pub value : ℕ → ℕ → Array
value places bytes = (value_local, places, bytes)

-- the arrays that a value of a type has in it
abbrev mutual
  arrays_in : Ty → List (ℕ × ℕ)
  arrays_in (ty_int w) = []
  arrays_in ty_bool = []
  arrays_in (ty_float f) = []
  arrays_in ty_ptr = []
  arrays_in (ty_ref κ μ τ) = []
  arrays_in (ty_array τ n) = (n, size τ) ∷ []
  arrays_in ty_unit = []
  arrays_in (ty_struct ν τs) = arrays_of τs
  arrays_in (ty_enum ν τss) = arrays_of_each τss
  arrays_in (ty_param ι) = []
  arrays_in (ty_const ι) = []
  arrays_in (ty_array_p τ ι) = []
  arrays_in (ty_named ν τs) = []

  arrays_of : Tys → List (ℕ × ℕ)
  arrays_of tnil = []
  arrays_of (tcons τ τs) = arrays_in τ ++ arrays_of τs

  arrays_of_each : Tyss → List (ℕ × ℕ)
  arrays_of_each ttnil = []
  arrays_of_each (ttcons τs τss) = arrays_of τs ++ arrays_of_each τss

-- among locals
abbrev among : List Local → List Array
among [] = []
among (local τ home ∷ rest) = map (λ a. (home, a.0, a.1)) (arrays_in τ) ++ among rest

-- the arrays of a function: of its result, its parameters, its variables in the order of the code, and what the compiler puts between them
abbrev pub arrays : Fn → List Array
arrays f = among f.locals
