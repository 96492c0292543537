pub mod RightTimelines
