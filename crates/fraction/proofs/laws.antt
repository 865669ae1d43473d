pub mod FractionLaws
