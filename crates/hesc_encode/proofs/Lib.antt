mod Families
