-- What is known of the functions that are called where a part of the program stands, and of its sizes, types and literals.
use Rattle.std.proofs.Common.{ℕ, Bool, true, false, cond, List, [], ◌∷◌}
use Rattle.c_syntax.specs.Statements.{Declaration, ForFirst, NoFirst, First, BlockItem, Declare, Specify, Run, Asserts}
use Rattle.c_model.specs.ExpressionTyping.{Sight, inner, with_object, with_objects}
use Rattle.c_model.specs.StatementTyping.{behind, behind_first}
use Rattle.c_model.specs.UnitTyping.{with_parameter, with_parameters}
use Rattle.c_simulation.specs.Standing.{Setting, Knows}
pub use Rattle.c_simulation.specs.Calls.{Scene}

-- objects that come into sight change nothing of it
pub knows_with : (w : Setting) (sight : Sight) (d : Declaration) → Knows w sight → Knows w (with_object sight d)
knows_with w sight d k = record {
  literals = k.literals;
  octets = k.octets;
  sizes = λ t known. k.sizes t (record { known = known.known; small = known.small });
  structs = k.structs;
}

pub scene_with : (w : Setting) (n : ℕ) (sight : Sight) (d : Declaration) → Scene w n sight → Scene w n (with_object sight d)
scene_with w n sight d scene = record {
  knows = knows_with w sight d scene.knows;
  calls = λ f t es c. scene.calls f t es (record {
    callee = c.callee;
    found = c.found;
    defined = c.defined;
    not_main = c.not_main;
    decl = c.decl;
    result = c.result;
    params = c.params;
    asked = c.asked;
    arguments = c.arguments;
  });
}

module _ (w : Setting) (n : ℕ) where
  pub scene_with_all : (sight : Sight) (ds : List Declaration) → Scene w n sight → Scene w n (with_objects sight ds)
  scene_with_all sight [] scene = scene
  scene_with_all sight (d ∷ ds) scene = scene_with_all (with_object sight d) ds (scene_with w n sight d scene)

  pub scene_inner : (sight : Sight) → Scene w n sight → Scene w n (inner sight)
  scene_inner sight scene = record {
    knows = record {
      literals = scene.knows.literals;
      octets = scene.knows.octets;
      sizes = λ t known. scene.knows.sizes t (record { known = known.known; small = known.small });
      structs = scene.knows.structs;
    };
    calls = λ f t es c. scene.calls f t es (record {
      callee = c.callee;
      found = c.found;
      defined = c.defined;
      not_main = c.not_main;
      decl = c.decl;
      result = c.result;
      params = c.params;
      asked = c.asked;
      arguments = c.arguments;
    });
  }

  pub scene_behind : (sight : Sight) (i : BlockItem) → Scene w n sight → Scene w n (behind sight i)
  scene_behind sight (Declare ds) scene = scene_with_all sight ds scene
  scene_behind sight (Specify at t) scene = scene
  scene_behind sight (Run a) scene = scene
  scene_behind sight (Asserts annots) scene = scene

  pub scene_behind_first : (sight : Sight) (first : ForFirst) → Scene w n sight → Scene w n (behind_first sight first)
  scene_behind_first sight NoFirst scene = scene
  scene_behind_first sight (First i) scene = scene_behind sight i scene

  pub scene_parameters : (sight : Sight) (ds : List Declaration) → Scene w n sight → Scene w n (with_parameters sight ds)
  scene_parameters sight [] scene = scene
  scene_parameters sight (d ∷ ds) scene = scene_parameters (with_parameter sight d) ds (by d.named)
    where
      by : (t : Bool) → Scene w n (cond t (with_object sight d) sight)
      by true = scene_with w n sight d scene
      by false = scene
